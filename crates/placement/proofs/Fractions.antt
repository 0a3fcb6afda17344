-- Laws of comparing fractions: with a draw, over all naturals, and with one another.
-- Assumes nothing.
use Prim.Native.Nat.{ℕ, ◌-◌, ◌*◌, ◌/◌, ◌≤◌, ◌<◌}
use mathlib.Core.Path.{◌≡◌, refl, ap}
use mathlib.Core.Logic.{inl, inr, ⊎_elim}
use mathlib.Core.Bool.{Bool, true, false, cond}
use native.Mathlib.Omega.{arith}
use native.Mathlib.Nat.{le_of_lt, mul_comm, mul-pos, mul-le-mul_right, mul-lt-mul_of_pos_right, lt_of_mul-lt-mul_right, le-div_iff_mul-le, div-lt_iff_lt-mul}
use lib.Dec.{leb}
use borrow.Author.Tests.{ltb-true, lt-ltb, le-ltb, leb-true, leb-false, le-leb}
use Rattle.lists.proofs.Tests.{by_bool, true-not-false, iff-eq}
use Rattle.placement.specs.declared.Fraction.{Fraction}
use Rattle.placement.specs.Fraction.{exceeds, at_least, raise, Raised}

pub fraction-eq : (p q : Fraction) → p.num ≡ q.num → p.den ≡ q.den → p ≡ q
fraction-eq p q a b = λ i. record { num = a i; den = b i }

pub one-exceeds : (m x : ℕ) → x < m → exceeds m (record { num = 1; den = 1 }) x ≡ true
unfolding exceeds
one-exceeds m x h = lt-ltb (x * 1) (1 * m) (omega arith)

pub zero-exceeds-none : (m d x : ℕ) → exceeds m (record { num = 0; den = d }) x ≡ false
unfolding exceeds
zero-exceeds-none m d x = le-ltb (x * d) (0 * m) (omega arith)

-- a fraction above 1, one of denominator 0 among them, exceeds every draw
pub improper-exceeds : (m : ℕ) (f : Fraction) (x : ℕ) → x < m → f.den < f.num → exceeds m f x ≡ true
unfolding exceeds
improper-exceeds m f x h l =
    let one = mul-le-mul_right f.den (le_of_lt h) in
    let two = mul-lt-mul_of_pos_right {k = m} l (omega arith) in
    lt-ltb (x * f.den) (f.num * m) (omega (arith, one, two, mul_comm m f.den))

-- the draws that any other fraction exceeds, if it is not 0: those up to (n * m - 1) / d, which is below m
module _ (m : ℕ) (f : Fraction) (some : 0 < f.num) (most : f.num ≤ f.den) (positive : 0 < m) where
  product : 0 < f.num * m
  product = mul-pos some positive

  pub proper-exceeds : (x : ℕ) → exceeds m f x ≡ leb x ((f.num * m - 1) / f.den)
  unfolding exceeds
  proper-exceeds x = iff-eq _ _
      (λ e. le-leb _ _ ((le-div_iff_mul-le {k = f.den} (omega arith)).1 (omega (arith, ltb-true (x * f.den) (f.num * m) e))))
      (λ e. lt-ltb (x * f.den) (f.num * m) (omega (arith, product, (le-div_iff_mul-le {k = f.den} (omega arith)).0 (leb-true x _ e))))

  pub proper-limit : (f.num * m - 1) / f.den < m
  proper-limit = (div-lt_iff_lt-mul {k = f.den} (omega arith)).1 (omega (arith, product, mul-le-mul_right m most, mul_comm m f.den))

-- what exceeds a draw still does when the fraction grows
pub exceeds-grows : (m : ℕ) (p q : Fraction) (x : ℕ) → 1 ≤ q.den → at_least q p ≡ true → exceeds m p x ≡ true → exceeds m q x ≡ true
unfolding exceeds at_least
exceeds-grows m p q x pos more e =
    let cross = leb-true (p.num * q.den) (q.num * p.den) more in
    let l = ltb-true (x * p.den) (p.num * m) e in
    let one = mul-lt-mul_of_pos_right {k = q.den} l pos in
    let two = mul-le-mul_right m cross in
    lt-ltb (x * q.den) (q.num * m) (lt_of_mul-lt-mul_right p.den (omega (arith, one, two)))

pub at_least-refl : (p : Fraction) → at_least p p ≡ true
unfolding at_least
at_least-refl p = le-leb (p.num * p.den) (p.num * p.den) (omega arith)

-- of two fractions one is at least the other
pub at_least-other : (p q : Fraction) → at_least p q ≡ false → at_least q p ≡ true
unfolding at_least
at_least-other p q e = le-leb (p.num * q.den) (q.num * p.den) (omega (arith, leb-false (q.num * p.den) (p.num * q.den) e))

-- the raised fraction by the test, then in words: it is the one that `Raised` speaks of, and no other is
raise-by : (p q : Fraction) (b : Bool) → at_least p q ≡ b → raise p q ≡ cond b p q
unfolding raise
raise-by p q b e = ap (λ (c : Bool). cond c p q) e

pub raise-is : (p q : Fraction) → Raised p q (raise p q)
raise-is p q = by_bool (at_least p q)
    (λ e. rw (raise-by p q true e) (record { one_of = inl refl; least = (at_least-refl p, e); kept = λ _. refl }))
    (λ e. rw (raise-by p q false e) (record { one_of = inr refl; least = (at_least-other p q e, at_least-refl q); kept = λ k. absurd (true-not-false k e) }))

pub raise-only : (p q r : Fraction) → Raised p q r → r ≡ raise p q
raise-only p q r R = by_bool (at_least p q)
    (λ e. rw (raise-by p q true e) (R.kept e))
    (λ e. rw (raise-by p q false e) (⊎_elim (λ s. absurd (true-not-false (rw s at R.least.1) e)) (λ s. s) R.one_of))
