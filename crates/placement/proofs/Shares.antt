-- Whether a fraction is at least WriteP, by weight over sum alone: neither a weight of 0 nor server 0, whose WriteP is 1, needs a case
-- of its own, if the fraction of server 0 is known to be at least 1.
-- Assumes nothing.
use Prim.Native.Nat.{ℕ, ◌*◌, ◌≤◌}
use mathlib.Core.Path.{◌≡◌, sym, ◌∙◌}
use mathlib.Core.Logic.{◌≢◌}
use native.Mathlib.Nat.{mul_comm, mul-le-mul_left}
use native.Mathlib.Omega.{arith}
use lib.Dec.{eqb}
use borrow.Author.Tests.{le-leb, eqb-true, eqb-false, eq-eqb, ne_eqb}
use Rattle.lists.proofs.Tests.{by_bool}
use Rattle.placement.specs.declared.Fraction.{Fraction}
use Rattle.placement.specs.Fraction.{at_least}
use Rattle.placement.specs.Rule.{share_of}

-- a later server: where its weight is 0, the fraction is at least 0 over whatever sum
later : (f : Fraction) (k weight sum : ℕ) → k ≢ 0 → at_least f (record { num = weight; den = sum }) ≡ at_least f (share_of k weight sum)
unfolding at_least share_of
later f k weight sum n = rw (ne_eqb k 0 n) (by_bool (eqb weight 0)
    (λ e. rw (e, eqb-true weight 0 e) (le-leb (0 * f.den) (f.num * sum) (omega arith) ∙ sym (le-leb (0 * f.den) (f.num * 1) (omega arith))))
    (λ e. rw e))

-- server 0: the fraction is at least 1, and so at least its weight over itself
zeroth : (f : Fraction) (k weight : ℕ) → k ≡ 0 → f.den ≤ f.num → at_least f (record { num = weight; den = weight }) ≡ at_least f (share_of k weight weight)
unfolding at_least share_of
zeroth f k weight e l =
    let scaled : weight * f.den ≤ f.num * weight = rw (mul_comm f.num weight) (mul-le-mul_left weight l) in
    rw (eq-eqb k 0 e) (le-leb _ _ scaled ∙ sym (le-leb (1 * f.den) (f.num * 1) (omega (arith, l))))

pub at-least-share : (f : Fraction) (k weight sum : ℕ) → (k ≡ 0 → (sum ≡ weight) × (f.den ≤ f.num)) → at_least f (record { num = weight; den = sum }) ≡ at_least f (share_of k weight sum)
at-least-share f k weight sum first = by_bool (eqb k 0)
    (λ d. let e = eqb-true k 0 d in rw (first e).0 (zeroth f k weight e (first e).1))
    (λ d. later f k weight sum (eqb-false k 0 d))
