-- The image of a table lent as words, written and read: what each answers, and what it leaves in each run of words. Where a run is
-- too short for the table or for the number of words it answers a number that no call gives, and every run is left as lent.
use Rattle.std.specs.Prelude.{ℕ, Bool, cond, ◌&&◌, List, length, set, leb, eqb}
use Rattle.table_words.specs.Words.{table_length, table_from, with_table}
use Rattle.image.specs.Encoding.{EncodeReply, encode_reply, encode_words}
use Rattle.image.specs.Decoding.{decode_reply, decode_table}
use Rattle.encoding.specs.Encoding.{too_short}

-- the number that encode answers, the destination, and the run whose first word has the number of words of the image
pub record AfterEncode : Type 0 where
  pub number : ℕ
  pub destination : List ℕ
  pub size : List ℕ

-- a refused encode leaves the number of words as lent
unfoldable pub with_size : List ℕ → EncodeReply → List ℕ
with_size size r = cond (eqb r.refusal 0) (set size 0 r.words) size

unfoldable pub fits_encode : List ℕ → List ℕ → Bool
fits_encode table size = leb table_length (length table) && leb 1 (length size)

unfoldable pub after_encode : List ℕ → List ℕ → List ℕ → AfterEncode
after_encode table destination size =
    let r = encode_reply (table_from table) destination in
    cond (fits_encode table size)
    (record { number = r.refusal; destination = encode_words (table_from table) destination; size = with_size size r })
    (record { number = too_short; destination = destination; size = size })

-- the number that decode answers; the table that it leaves is stored in front of its run (`with_table`), one of all zeros where the
-- image is refused
unfoldable pub decode_number : List ℕ → List ℕ → ℕ
decode_number image table = cond (leb table_length (length table)) (decode_reply image).refusal too_short

unfoldable pub after_decode : List ℕ → List ℕ → List ℕ
after_decode image table = with_table table (decode_table image)
