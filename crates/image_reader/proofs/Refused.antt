-- What is refused leaves the table of all zeros.
-- Assumes nothing.
use Prim.Native.Nat.{ℕ}
use mathlib.Core.Path.{◌≡◌, ap, ◌∙◌, sym}
use mathlib.Core.List.{List}
use Rattle.lists.proofs.Tests.{by_bool}
use Rattle.table.specs.Parts.{empty}
use Rattle.replies.specs.declared.Refusal.{Refusal}
use Rattle.replies.specs.declared.Reply.{Reply}
use Rattle.replies.specs.Reply.{number_of, refused}
use Rattle.replies.proofs.Answers.{number-not-zero}
use Rattle.image.specs.Decoding.{is_image, decode_reply, decode_table}
use Rattle.image.proofs.Reading.{decode-refused, decode-done}

pub refused_zeros : (words : List ℕ) (r : Refusal) → refused (number_of r) 0 ≡ decode_reply words → empty 0 0 ≡ decode_table words
refused_zeros words r e = by_bool (is_image words)
    (λ t. absurd (number-not-zero r (ap (λ (x : Reply). x.refusal) (e ∙ sym (decode-done words t).0))))
    (λ f. (decode-refused words f).1)
