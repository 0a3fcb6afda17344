-- Encode writes the image of a table to lent words: its refusals, its reply, and the words afterwards.
use Rattle.std.specs.Prelude.{ℕ, not, Result, Ok, Err, List, [], ◌∷◌, ◌++◌, length, drop, ltb}
use Rattle.table.specs.declared.Table.{Table}
use Rattle.table.specs.Sound.{sound}
use Rattle.replies.specs.declared.Refusal.{Refusal}
use Rattle.replies.specs.Refusal.{Row, ◌when◌, first_of, settle}
use Rattle.replies.specs.Reply.{number_of}
use Rattle.image.specs.Layout.{image_length, image_of}

-- the table is not sound; the destination has fewer words than the image
unfoldable pub encode_rows : Table → List ℕ → List Row
encode_rows t destination =
    1 when not (sound t)
    ∷ 13 when ltb (length destination) (image_length t.count)
    ∷ []

-- the reply of encode in the paper's numbers: its refusal, 0 where there is none, and how many words the image has
pub record EncodeReply : Type 0 where
  pub refusal : ℕ
  pub words : ℕ

unfoldable pub reply_of_encode : Result ℕ Refusal → EncodeReply
reply_of_encode (Ok n) = record { refusal = 0; words = n }
reply_of_encode (Err r) = record { refusal = number_of r; words = 0 }

unfoldable pub encode_reply : Table → List ℕ → EncodeReply
encode_reply t destination =
    settle (encode_rows t destination)
    (record { refusal = 0; words = image_length t.count })
    (record { refusal = first_of (encode_rows t destination); words = 0 })

-- the image stands in front, and the words past it keep their content
unfoldable pub encode_words : Table → List ℕ → List ℕ
encode_words t destination =
    settle (encode_rows t destination)
    (image_of t ++ drop (image_length t.count) destination)
    destination
