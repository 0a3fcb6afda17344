-- What encode and decode leave in each run of words, by which run is too short and by what is answered.
-- Assumes nothing.
use Prim.Native.Nat.{ℕ, ◌≤◌, ◌<◌}
use mathlib.Core.Path.{◌≡◌, ap, ◌∙◌}
use mathlib.Core.Bool.{true, false}
use mathlib.Core.List.{List}
use lib.ListN.{length, set}
use borrow.Author.Tests.{ne_eqb, le-leb, lt-leb, lt-ltb}
use Rattle.std.specs.Prelude.{Result, Ok, Err}
use Rattle.table.specs.declared.Table.{Table}
use Rattle.table_words.specs.Words.{table_length, table_from, with_table}
use Rattle.replies.specs.declared.Reply.{Reply}
use Rattle.replies.specs.declared.Refusal.{Refusal}
use Rattle.replies.specs.Reply.{number_of, check_number, reply_of_check}
use Rattle.replies.proofs.Answers.{number-not-zero, number_of_reply}
use Rattle.image.specs.Encoding.{reply_of_encode, encode_reply, encode_words}
use Rattle.image.specs.Decoding.{decode_reply, decode_table}
use Rattle.encoding.specs.Encoding.{too_short}
use Rattle.image_words.specs.ImageWords.{with_size, fits_encode, after_encode, decode_number, after_decode}

-- what a run of encode shows: its number, the destination and the size
abbrev pub Leaves : List ℕ → List ℕ → List ℕ → ℕ → List ℕ → List ℕ → Type 0
Leaves table d size number d' size' =
    let after = after_encode table d size in
    (number ≡ after.number) × ((d' ≡ after.destination) × (size' ≡ after.size))

module _ (table d size : List ℕ) where
  unfit : fits_encode table size ≡ false → Leaves table d size too_short d size
  unfolding after_encode
  unfit e = (rw e, (rw e, rw e))

  pub no_table : length table < table_length → Leaves table d size too_short d size
  unfolding fits_encode
  no_table l = unfit (rw (lt-leb _ _ l))

  pub no_size : table_length ≤ length table → length size < 1 → Leaves table d size too_short d size
  unfolding fits_encode
  no_size a l = unfit (rw (le-leb _ _ a, lt-leb _ _ l))

  enough : table_length ≤ length table → 1 ≤ length size → fits_encode table size ≡ true
  unfolding fits_encode
  enough a b = rw (le-leb _ _ a, le-leb _ _ b)

  -- what encode answers and leaves where the runs are long enough
  module _ (a : table_length ≤ length table) (b : 1 ≤ length size) (d' : List ℕ) (w : d' ≡ encode_words (table_from table) d) where
    pub encoded : (n : ℕ) → reply_of_encode (Ok n) ≡ encode_reply (table_from table) d → Leaves table d size 0 d' (set size 0 n)
    unfolding after_encode with_size reply_of_encode
    encoded n e = (rw (enough a b, ← e), (rw (enough a b) w, rw (enough a b, ← e)))

    pub unencoded : (r : Refusal) → reply_of_encode (Err r) ≡ encode_reply (table_from table) d → Leaves table d size (number_of r) d' size
    unfolding after_encode with_size reply_of_encode
    unencoded r e = (rw (enough a b, ← e), (rw (enough a b) w, rw (enough a b, ← e, ne_eqb (number_of r) 0 (number-not-zero r))))

-- decode, where there is no room for a table, and where there is
pub no_room : (image table : List ℕ) → length table < table_length → (too_short ≡ decode_number image table) × (table ≡ after_decode image table)
unfolding decode_number after_decode with_table
no_room image table l = (rw (lt-leb _ _ l), rw (lt-ltb _ _ l))

pub decoded : (image table : List ℕ) (a : Result Table Refusal) (n : ℕ) (t : Table) (table' : List ℕ) → table_length ≤ length table → n ≡ check_number a
    → reply_of_check a ≡ decode_reply image → t ≡ decode_table image → table' ≡ with_table table t → (n ≡ decode_number image table) × (table' ≡ after_decode image table)
unfolding decode_number after_decode
decoded image table a n t table' l e r f g = (rw (le-leb _ _ l) (e ∙ number_of_reply a ∙ ap (λ (r : Reply). r.refusal) r), g ∙ ap (with_table table) f)
