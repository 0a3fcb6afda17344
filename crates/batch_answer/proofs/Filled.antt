-- Arrays of 256 numbers, of which the first n are given and the rest are 0.
-- Assumes nothing.
use Prim.Native.Nat.{ℕ, ◌≤◌, ◌<◌}
use mathlib.Core.Path.{◌≡◌, sym, ◌∙◌}
use mathlib.Core.List.{List}
use lib.ListN.{length, replicate, length-replicate}
use lib.Seq.{ext_get_or}
use lib.Dec.{ltb}
use borrow.Author.Tests.{ltb-true, ltb-false}
use Rattle.lists.specs.Below.{nth, total}
use Rattle.lists.proofs.Tests.{by_bool}
use Rattle.lists.proofs.Below.{length-set_below, set_below-at, set_below-above, nth-zeros, total-cong, total-rest}
use Rattle.batch_answer.specs.Answer.{filled}

module _ (f : ℕ → ℕ) (n : ℕ) (few : n ≤ 256) where
  pub filled_at : (i : ℕ) → i < n → nth (filled f n) i ≡ f i
  unfolding filled
  filled_at i l = set_below-at f n (replicate 256 0) (rw (length-replicate {A = ℕ} 256 0) few) i l

  filled-above : (i : ℕ) → n ≤ i → nth (filled f n) i ≡ 0
  unfolding filled
  filled-above i l = set_below-above f n (replicate 256 0) i l ∙ nth-zeros 256 i

  pub length-filled : length (filled f n) ≡ 256
  unfolding filled
  length-filled = length-set_below f n (replicate 256 0) ∙ length-replicate {A = ℕ} 256 0

  -- what has these numbers is this array
  pub filled_is : (xs : List ℕ) → length xs ≡ 256 → ((i : ℕ) → i < n → nth xs i ≡ f i) → ((i : ℕ) → n ≤ i → nth xs i ≡ 0) → xs ≡ filled f n
  filled_is xs long front rest =
      ext_get_or 0 xs (filled f n) (long ∙ sym length-filled) (λ i b. by_bool (ltb i n)
      (λ d. front i (ltb-true i n d) ∙ sym (filled_at i (ltb-true i n d)))
      (λ d. rest i (ltb-false i n d) ∙ sym (filled-above i (ltb-false i n d))))

  -- the sum of the array is that of the given numbers
  pub filled-total : total (nth (filled f n)) 256 ≡ total f n
  filled-total = total-rest (nth (filled f n)) n 256 few filled-above ∙ total-cong (nth (filled f n)) f n filled_at

  -- what holds of all the given numbers and of 0 holds at every position
  pub filled-each : (P : ℕ → Type 0) → ((i : ℕ) → P (f i)) → P 0 → (i : ℕ) → P (nth (filled f n) i)
  filled-each P each zero i = by_bool (ltb i n)
      (λ d. rw (filled_at i (ltb-true i n d)) (each i))
      (λ d. rw (filled-above i (ltb-false i n d)) zero)
