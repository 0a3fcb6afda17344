-- The numbers below n from the highest down, as a chain over `(0..n).rev()` gives them.
-- Assumes nothing.
use Prim.Native.Nat.{ℕ, zero, suc, ◌+◌, ◌-◌, ◌<◌}
use mathlib.Core.Path.{◌≡◌, refl, sym, ap, ap₂, ◌∙◌, subst}
use mathlib.Core.Bool.{Bool}
use mathlib.Core.List.{List, [], ◌∷◌}
use native.Mathlib.Omega.{arith}
use lib.ListN.{length, get_or}
use Rattle.std.specs.declared.iter.Rev.{Rev}
use Rattle.std.specs.declared.ops.Range.{Range}
use Rattle.std.specs.Iterator.Adapters.{rev_steps}
use Rattle.std.specs.List.{find}
use Rattle.std.proofs.iter.runs.Sources.{nat_range_steps_back}
use Rattle.std.proofs.lemmas.Iterator.{YieldsList}
use Rattle.std.proofs.lemmas.Iterator.Consumers.{YieldsList-from_shown}
use Rattle.lists.specs.Below.{highest}

-- n numbers from a on, the highest first
pub downs : ℕ → ℕ → List ℕ
downs a zero = []
downs a (suc n) = (a + n) ∷ downs a n

pub length-downs : (a n : ℕ) → length (downs a n) ≡ n
unfolding downs
length-downs a zero = refl
length-downs a (suc n) = ap suc (length-downs a n)

pub downs-below : (n k d : ℕ) → k < n → get_or (downs 0 n) k d < n
unfolding downs
downs-below zero k d l = absurd (omega arith)
downs-below (suc n) zero d l = omega arith
downs-below (suc n) (suc k) d l = omega (arith, downs-below n k d (omega arith))

pub find-downs : (p : ℕ → Bool) (n : ℕ) → find p (downs 0 n) ≡ highest p n
unfolding downs highest
find-downs p zero = refl
find-downs p (suc n) = let e : 0 + n ≡ n = omega arith in rw (e, find-downs p n)

pub YieldsList-from_rev_range : {s : Rev (Range ℕ)} (n : ℕ) → s.iter ≡ record { start = 0; end = n } → YieldsList (rev_steps nat_range_steps_back) (λ x. x) s (downs 0 n)
unfolding downs
YieldsList-from_rev_range {s} n e =
    let all : downs s.iter.start (s.iter.end - s.iter.start) ≡ downs 0 n = ap₂ downs (ap (λ (r : Range ℕ). r.start) e) (omega (arith, ap (λ (r : Range ℕ). r.start) e, ap (λ (r : Range ℕ). r.end) e)) in
    subst (YieldsList (rev_steps nat_range_steps_back) (λ x. x) s) all
    (YieldsList-from_shown (rev_steps nat_range_steps_back) (λ x. x) (λ u. downs u.iter.start (u.iter.end - u.iter.start))
    (λ u t p. omega (arith, length-downs u.iter.start (u.iter.end - u.iter.start), p.1.0))
    (λ u x t p.
    let more : u.iter.end - u.iter.start ≡ suc (t.iter.end - t.iter.start) = omega (arith, p.0, p.1.0, p.1.2) in
    let here : u.iter.start + (t.iter.end - t.iter.start) ≡ x = omega (arith, p.0, p.1.0, p.1.1, p.1.2) in
    ap (downs u.iter.start) more ∙ ap₂ ◌∷◌ here (ap (λ (a : ℕ). downs a (t.iter.end - t.iter.start)) (sym p.0)))
    s)
