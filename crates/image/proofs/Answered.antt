-- What encode answers and leaves, refused and done.
-- Assumes nothing.
use Prim.Native.Nat.{ℕ, ◌≤◌}
use mathlib.Core.Path.{◌≡◌, sym, ap, ◌∙◌}
use mathlib.Core.Bool.{true}
use mathlib.Core.List.{List}
use lib.ListN.{length}
use lib.Seq.{sets}
use Rattle.table.specs.declared.Table.{Table}
use Rattle.table.specs.Sound.{sound}
use Rattle.replies.specs.declared.Refusal.{Refusal}
use Rattle.replies.specs.Reply.{number_of}
use Rattle.replies.specs.Refusal.{first_of}
use Rattle.replies.proofs.Answers.{kept}
use Rattle.std.specs.Prelude.{Ok, Err}
use Rattle.image.specs.Layout.{image_length, image_of}
use Rattle.image.specs.Encoding.{encode_rows, reply_of_encode, encode_reply, encode_words}
use Rattle.image.proofs.Writing.{encode-settled, image_in_front}

module _ (t : Table) (d : List ℕ) where
  pub encode-refused : (r : Refusal) → number_of r ≡ first_of (encode_rows t d) → (reply_of_encode (Err r) ≡ encode_reply t d) × (d ≡ encode_words t d)
  unfolding reply_of_encode encode_reply encode_words
  encode-refused r e = (ap (λ (n : ℕ). record { refusal = n; words = 0 }) e ∙ kept (encode_rows t d) r e _ _, kept (encode_rows t d) r e _ d)

  pub encode-done : (n : ℕ) (d' : List ℕ) → sound t ≡ true → image_length t.count ≤ length d → n ≡ image_length t.count → d' ≡ sets d 0 (image_of t)
      → (reply_of_encode (Ok n) ≡ encode_reply t d) × (d' ≡ encode_words t d)
  unfolding reply_of_encode
  encode-done n d' ok l e f =
      let settled = encode-settled t d ok l in
      (ap (λ (n : ℕ). record { refusal = 0; words = n }) e ∙ sym settled.0, f ∙ image_in_front t d l ∙ sym settled.1)
