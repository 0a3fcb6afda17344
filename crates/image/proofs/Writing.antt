-- Laws of encode: an image that is stored word by word, and what the call answers and leaves.
-- Assumes nothing.
use Prim.Native.Nat.{ℕ, suc, ◌+◌, ◌*◌, ◌≤◌, ◌<◌}
use mathlib.Core.Path.{◌≡◌, refl, sym, ap, ◌∙◌}
use mathlib.Core.Bool.{true, false}
use mathlib.Core.List.{List, [], ◌∷◌, ◌++◌, append_assoc}
use native.Mathlib.Omega.{arith}
use lib.ListN.{length, set, drop}
use lib.Seq.{sets, sets-eq}
use lib.Dec.{eqb}
use borrow.Author.Tests.{eqb-true, lt-ltb, le-ltb}
use Rattle.limits.specs.Limits.{content_range, tenants}
use Rattle.lists.specs.Below.{join_below}
use Rattle.lists.proofs.Tests.{by_bool}
use Rattle.lists.proofs.Below.{length-join, join_more, sets-append}
use Rattle.words.specs.Word.{tagged}
use Rattle.table.specs.declared.Table.{Table}
use Rattle.counters.specs.Counter.{in_bounds}
use Rattle.placement.specs.declared.Fraction.{Fraction}
use Rattle.table.specs.Parts.{weight_of, used_of, read_p}
use Rattle.table.specs.Sound.{sound}
use Rattle.table.proofs.Soundness.{sound-facts}
use Rattle.replies.specs.declared.Refusal.{Refusal}
use Rattle.replies.specs.Refusal.{first_of, settle}
use Rattle.replies.proofs.Refusals.{settle-yes}
use Rattle.replies.proofs.Answers.{number-not-zero}
use Rattle.replies.proofs.Distinct.{numbers_apart}
use Rattle.std.specs.Prelude.{Result, Ok, Err}
use Rattle.image.specs.Layout.{head_words, part_words, part_at, image_length, server_image, counter_image, image_of}
use Rattle.image.specs.Encoding.{EncodeReply, encode_rows, reply_of_encode, encode_reply, encode_words}
use Rattle.image.proofs.Images.{length-image}

-- lists of one length, stored one after another: one more
pub stored_more : (width : ℕ) (f : ℕ → List ℕ) → ((k : ℕ) → length (f k) ≡ width) → (l m : List ℕ) (from k at : ℕ)
    → m ≡ sets l from (join_below f k) → at ≡ from + width * k → sets m at (f k) ≡ sets l from (join_below f (k + 1))
stored_more width f each l m from k at e a =
    let here : at ≡ from + length (join_below f k) = a ∙ ap (λ (n : ℕ). from + n) (sym (length-join width f each k)) in
    rw (e, here, join_more f k) (sets-append l from (join_below f k) (f k))

-- the four words of a server
pub stored-four : (l : List ℕ) (at : ℕ) {a b c d a' b' c' d' : ℕ} → a ≡ a' → b ≡ b' → c ≡ c' → d ≡ d'
    → set (set (set (set l (at + 0) a) (at + 1) b) (at + 2) c) (at + 3) d ≡ sets l at (a' ∷ b' ∷ c' ∷ d' ∷ [])
stored-four l at e f g h =
    let zero : at + 0 ≡ at = omega arith in
    let one : at + 1 ≡ suc at = omega arith in
    let two : at + 2 ≡ suc (suc at) = omega arith in
    let three : at + 3 ≡ suc (suc (suc at)) = omega arith in
    rw (e, f, g, h, zero, one, two, three)

-- head, servers and counters are the whole image
pub stored-image : (t : Table) (l w₂ w₃ : List ℕ) {a b : ℕ} → a ≡ tagged 0 t.capacity → b ≡ tagged 1 t.salt
    → w₂ ≡ sets (set (set l 0 a) 1 b) head_words (join_below (server_image t) t.count)
    → w₃ ≡ sets w₂ (part_at t.count) (join_below (counter_image t) tenants) → w₃ ≡ sets l 0 (image_of t)
unfolding image_of
stored-image t l w₂ w₃ {a} {b} e f g h =
    let head : List ℕ = a ∷ b ∷ [] in
    let servers = join_below (server_image t) t.count in
    let counters = join_below (counter_image t) tenants in
    let long : part_at t.count ≡ 0 + length (head ++ servers) = omega (arith, length-join part_words (server_image t) (λ k. refl) t.count) in
    let two : w₂ ≡ sets l 0 (head ++ servers) = g ∙ sets-append l 0 head servers in
    let all : sets w₂ (part_at t.count) counters ≡ sets l 0 ((head ++ servers) ++ counters) = rw (two, long) (sets-append l 0 (head ++ servers) counters) in
    let image : (head ++ servers) ++ counters ≡ image_of t = rw (append_assoc head servers counters, e, f) in
    h ∙ all ∙ ap (sets l 0) image

-- the numbers of a sound table fit beside a tag
pub head_small : (t : Table) → sound t ≡ true → (t.capacity < content_range) × (t.salt < content_range) × (in_bounds t.counters ≡ true)
head_small t e = let s = sound-facts t e in (omega (arith, s.high), s.salted, s.bounds)

pub server_small : (t : Table) (k : ℕ) (read : Fraction) → sound t ≡ true → k < t.count → read ≡ read_p t k
    → (weight_of t k < content_range) × (used_of t k < content_range) × (read.num < content_range) × (read.den < content_range)
server_small t k read e l r =
    let s = sound-facts t e in
    let o = s.server k l in
    rw r (omega (arith, o.light, s.high), omega (arith, o.fits, s.high), omega (arith, o.proper, o.small), omega (arith, o.small))

-- what the rows say
module _ (t : Table) (d : List ℕ) where
  pub rows-unsound : sound t ≡ false → 1 ≡ first_of (encode_rows t d)
  unfolding encode_rows first_of
  rows-unsound e = rw e

  pub rows_short : sound t ≡ true → length d < image_length t.count → 13 ≡ first_of (encode_rows t d)
  unfolding encode_rows first_of
  rows_short e l = rw (e, lt-ltb _ _ l)

  rows-passed : sound t ≡ true → image_length t.count ≤ length d → first_of (encode_rows t d) ≡ 0
  unfolding encode_rows first_of
  rows-passed e l = rw (e, le-ltb _ _ l)

  -- the number that is answered is that of the rows
  pub encode-number : (encode_reply t d).refusal ≡ first_of (encode_rows t d)
  unfolding encode_reply settle
  encode-number = by_bool (eqb (first_of (encode_rows t d)) 0) (λ e. rw e (sym (eqb-true (first_of (encode_rows t d)) 0 e))) (λ e. rw e)

  -- the reply and the words where the image has room
  pub encode-settled : sound t ≡ true → image_length t.count ≤ length d
      → (encode_reply t d ≡ record { refusal = 0; words = image_length t.count }) × (encode_words t d ≡ image_of t ++ drop (image_length t.count) d)
  unfolding encode_reply encode_words
  encode-settled ok l = let z = rows-passed ok l in (settle-yes (encode_rows t d) _ _ z, settle-yes (encode_rows t d) _ d z)

-- the image in front of a destination that has room for it
pub image_in_front : (t : Table) (d : List ℕ) → image_length t.count ≤ length d → sets d 0 (image_of t) ≡ image_of t ++ drop (image_length t.count) d
image_in_front t d l =
    let long : 0 + length (image_of t) ≡ image_length t.count = omega (arith, length-image t) in
    sets-eq (image_of t) d 0 (omega arith) ∙ rw long

-- two different answers never have the same reply
pub encodes-apart : (a b : Result ℕ Refusal) → reply_of_encode a ≡ reply_of_encode b → a ≡ b
unfolding reply_of_encode
encodes-apart (Ok n) (Ok o) e = ap (λ (k : ℕ). Ok k) (ap (λ (r : EncodeReply). r.words) e)
encodes-apart (Ok n) (Err r) e = absurd (number-not-zero r (sym (ap (λ (r : EncodeReply). r.refusal) e)))
encodes-apart (Err r) (Ok n) e = absurd (number-not-zero r (ap (λ (r : EncodeReply). r.refusal) e))
encodes-apart (Err r) (Err s) e = ap (λ (x : Refusal). Err x) (numbers_apart r s (ap (λ (r : EncodeReply). r.refusal) e))
