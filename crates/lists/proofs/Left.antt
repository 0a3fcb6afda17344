-- What is left once all above the highest number that passes is passed over: one past it, or nothing.
-- Assumes nothing.
use Prim.Native.Nat.{ℕ, zero, suc, ◌≤◌}
use mathlib.Core.Path.{◌≡◌, refl}
use mathlib.Core.Bool.{Bool}
use Rattle.std.specs.Prelude.{Option, None, Some}
use native.Mathlib.Omega.{arith}
use Rattle.lists.specs.Below.{highest}
use Rattle.lists.proofs.Tests.{by_bool}

pub one_past : Option ℕ → ℕ
one_past None = 0
one_past (Some j) = suc j

pub left-few : (p : ℕ → Bool) (n : ℕ) → one_past (highest p n) ≤ n
unfolding highest one_past
left-few p zero = omega arith
left-few p (suc n) = by_bool (p n) (λ e. rw e (omega arith)) (λ e. rw e (omega (arith, left-few p n)))

pub left-same : (p : ℕ → Bool) (n : ℕ) → highest p n ≡ highest p (one_past (highest p n))
unfolding highest one_past
left-same p zero = refl
left-same p (suc n) = by_bool (p n) (λ e. rw e (rw e refl)) (λ e. rw e (left-same p n))
