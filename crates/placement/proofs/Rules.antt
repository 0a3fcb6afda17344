-- Laws of the published rule.
-- Assumes nothing.
use Prim.Native.Nat.{ℕ, zero, suc, ◌-◌, ◌≤◌, ◌<◌}
use mathlib.Core.Path.{◌≡◌, refl, sym, ap, ap₂, ◌∙◌}
use mathlib.Core.Bool.{Bool, true, false}
use native.Mathlib.Numerals.{sub-one}
use native.Mathlib.Omega.{arith}
use lib.Dec.{eqb}
use borrow.Author.Tests.{eqb-true, eqb-false, ne_eqb}
use Rattle.lists.specs.Below.{highest, or_zero, total}
use Rattle.lists.proofs.Tests.{by_bool}
use Rattle.lists.proofs.Below.{Highest, highest-is, highest-only, highest-cong, highest-found, highest-passed, highest-end, highest-above, total-cong, total-le}
use Rattle.draws.specs.Draw.{modulus, draw_of}
use Rattle.draws.proofs.Draws.{draw<}
use Rattle.placement.specs.declared.Fraction.{Fraction}
use Rattle.placement.specs.Fraction.{exceeds}
use Rattle.placement.specs.Rule.{share_of, write_p, takes, pick, write_server, readable, Picked}
use Rattle.placement.proofs.Fractions.{one-exceeds, zero-exceeds-none}

-- a fraction of at most 1
pub record Proper (f : Fraction) : Type 0 where
  pub positive : 1 ≤ f.den
  pub at_most_one : f.num ≤ f.den

pub write_p-proper : (weight : ℕ → ℕ) (k : ℕ) → Proper (write_p weight k)
unfolding write_p share_of total
write_p-proper weight k = by_bool (eqb k 0)
    (λ e. rw e (record { positive = omega arith; at_most_one = omega arith }))
    (λ e. rw e (by_bool (eqb (weight k) 0)
    (λ d. rw d (record { positive = omega arith; at_most_one = omega arith }))
    (λ d. rw d (record { positive = omega (arith, eqb-false (weight k) 0 d); at_most_one = omega arith }))))

-- 256 servers of weight at most 65,536
pub write_p-small : (weight : ℕ → ℕ) (k : ℕ) → k < 256 → ((i : ℕ) → i ≤ k → weight i ≤ 65536) → (write_p weight k).den ≤ 16777216
unfolding write_p share_of
write_p-small weight k few light =
    let s = total-le weight 65536 (suc k) (λ i l. light i (omega arith)) in
    by_bool (eqb k 0)
    (λ e. rw e (omega arith))
    (λ e. rw e (by_bool (eqb (weight k) 0) (λ d. rw d (omega arith)) (λ d. rw d (omega arith))))

-- server 0 takes every id
pub zero-takes : (m : ℕ) (draw weight : ℕ → ℕ) → draw 0 < m → takes m draw (write_p weight) 0 ≡ true
unfolding takes write_p share_of
zero-takes m draw weight h = one-exceeds m (draw 0) h

picked-highest : (m : ℕ) (draw weight : ℕ → ℕ) (n k : ℕ) → Picked m draw weight n k → Highest (takes m draw (write_p weight)) n k
picked-highest m draw weight n k a = record { below = a.below; passes = a.takes_it; none_above = a.none_above }

-- the pick is what the paper says
pub pick_is : (m : ℕ) (draw weight : ℕ → ℕ) (n : ℕ) → draw 0 < m → 0 < n → Picked m draw weight n (pick m draw weight n)
unfolding pick
pick_is m draw weight n d l =
    let h = highest-is (takes m draw (write_p weight)) n 0 l (zero-takes m draw weight d) in
    record { below = h.below; takes_it = h.passes; none_above = h.none_above }

-- and nothing else is
pub pick-only : (m : ℕ) (draw weight : ℕ → ℕ) (n k : ℕ) → draw 0 < m → Picked m draw weight n k → k ≡ pick m draw weight n
pick-only m draw weight n k d a =
    highest-only (takes m draw (write_p weight)) n k (pick m draw weight n) (picked-highest m draw weight n k a)
    (picked-highest m draw weight n (pick m draw weight n) (pick_is m draw weight n d (omega (arith, a.below))))

-- so is the write server of an id
pub write_server-is : (weight : ℕ → ℕ) (n salt id : ℕ) → 0 < n → Picked modulus (draw_of salt id) weight n (write_server weight n salt id)
unfolding write_server
write_server-is weight n salt id l = pick_is modulus (draw_of salt id) weight n (draw< salt id 0) l

-- the rules read only the salt, and the weights and fractions below the count
pub write_p-cong : (v u : ℕ → ℕ) (k : ℕ) → ((i : ℕ) → i ≤ k → v i ≡ u i) → write_p v k ≡ write_p u k
unfolding write_p
write_p-cong v u k h = rw (h k (omega arith), total-cong v u (suc k) (λ i l. h i (omega arith)))

takes-cong : (m : ℕ) (draw : ℕ → ℕ) (f g : ℕ → Fraction) (k : ℕ) → f k ≡ g k → takes m draw f k ≡ takes m draw g k
unfolding takes
takes-cong m draw f g k e = rw e

pub readable-cong : (f g : ℕ → Fraction) (salt salt' id k : ℕ) → salt ≡ salt' → f k ≡ g k → readable f salt id k ≡ readable g salt' id k
unfolding readable
readable-cong f g salt salt' id k s e = ap (λ (n : ℕ). takes modulus (draw_of n id) f k) s ∙ takes-cong modulus (draw_of salt' id) f g k e

pick-cong : (m : ℕ) (draw v u : ℕ → ℕ) (n : ℕ) → ((i : ℕ) → i < n → v i ≡ u i) → pick m draw v n ≡ pick m draw u n
unfolding pick
pick-cong m draw v u n h = ap or_zero (highest-cong (takes m draw (write_p v)) (takes m draw (write_p u)) n (λ k l. takes-cong m draw (write_p v) (write_p u) k (write_p-cong v u k (λ i a. h i (omega arith)))))

pub write_server-cong : (v u : ℕ → ℕ) (n n' salt salt' id : ℕ) → ((i : ℕ) → i < n → v i ≡ u i) → n ≡ n' → salt ≡ salt'
    → write_server v n salt id ≡ write_server u n' salt' id
unfolding write_server
write_server-cong v u n n' salt salt' id h e s = pick-cong modulus (draw_of salt id) v u n h ∙ ap₂ (λ (a b : ℕ). pick modulus (draw_of a id) u b) s e

-- the test at the last of k servers, by the sum of all k weights; a weight of 0 over that sum exceeds no draw, as 0/1 does not
pub takes-last : (m : ℕ) (draw weight : ℕ → ℕ) (k : ℕ) → 1 < k
    → takes m draw (write_p weight) (k - 1) ≡ exceeds m (record { num = weight (k - 1); den = total weight k }) (draw (k - 1))
unfolding takes write_p share_of
takes-last m draw weight zero l = absurd (omega arith)
takes-last m draw weight (suc k) l =
    rw (sub-one, ne_eqb k 0 (λ e. omega arith)) (by_bool (eqb (weight k) 0)
    (λ d. rw (d, eqb-true (weight k) 0 d, zero-exceeds-none m 1 (draw k)) (sym (zero-exceeds-none m (total weight (suc k)) (draw k))))
    (λ d. rw d refl))

-- where at most server 0 is left it is picked
pub pick-last : (p : ℕ → Bool) (k : ℕ) → k ≤ 1 → or_zero (highest p k) ≡ 0
pick-last p k l = highest-end p k l

-- the write server of an id is the highest that takes it of the k servers that are left
abbrev pub LeftOf : (ℕ → ℕ) → ℕ → ℕ → ℕ → ℕ → Type 0
LeftOf weight n salt id k = write_server weight n salt id ≡ or_zero (highest (takes modulus (draw_of salt id) (write_p weight)) k)

-- by the test of the last of them it is that one, or one of the others
module _ (weight : ℕ → ℕ) (n salt id k sum : ℕ) (b : Bool) (more : 1 < k) (left : LeftOf weight n salt id k) (all : sum ≡ total weight k)
    (e : b ≡ exceeds modulus (record { num = weight (k - 1); den = sum }) (draw_of salt id (k - 1))) where
  test : takes modulus (draw_of salt id) (write_p weight) (k - 1) ≡ b
  test = rw (e, all) (takes-last modulus (draw_of salt id) weight k more)

  pub last_takes : b ≡ true → k - 1 ≡ write_server weight n salt id
  last_takes t = sym (left ∙ highest-found _ k (omega arith) (test ∙ t))

  pub last_passed : b ≡ false → LeftOf weight n salt id (k - 1)
  last_passed f = left ∙ highest-passed _ k (omega arith) (test ∙ f)

-- the write server by weight over sum alone: what server 0 is tested by does not matter
pub write_server-parts : (weight : ℕ → ℕ) (n salt id : ℕ)
    → write_server weight n salt id ≡ or_zero (highest (λ k. exceeds modulus (record { num = weight k; den = total weight (suc k) }) (draw_of salt id k)) n)
unfolding write_server pick
write_server-parts weight n salt id = highest-above _ _ n (λ k a b. rw sub-one at (takes-last modulus (draw_of salt id) weight (suc k) (omega arith)))
