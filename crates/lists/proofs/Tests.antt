-- Laws of Bool tests.
-- Assumes nothing.
use Prim.Native.Nat.{ℕ}
use mathlib.Core.Path.{◌≡◌, refl, sym, ◌∙◌, subst}
use mathlib.Core.Bool.{Bool, true, false, not, ◌&&◌, ◌||◌, and-true, and-false}
use mathlib.Core.Logic.{◌≢◌}
use native.Mathlib.Omega.{arith}
use lib.Dec.{eqb}
use borrow.Author.Tests.{eqb-true, eqb-false}

-- by cases on a test, each with its equation
pub by_bool {ℓ} : {X : Type ℓ} (b : Bool) → (b ≡ true → X) → (b ≡ false → X) → X
by_bool true f g = f refl
by_bool false f g = g refl

pub true-not-false : {b : Bool} → b ≡ true → b ≡ false → ⊥
true-not-false p q = let z : ◌≡◌ {A = ℕ} 0 1 = cc in omega arith

pub and_l : (a b : Bool) → a && b ≡ true → a ≡ true
and_l true b h = refl
and_l false b h = h

pub and_r : (a b : Bool) → a && b ≡ true → b ≡ true
and_r true b h = h
and_r false b h = absurd (true-not-false h refl)

pub and_i : (a b : Bool) → a ≡ true → b ≡ true → a && b ≡ true
and_i true b p q = q
and_i false b p q = p

pub or-false : (a b : Bool) → a || b ≡ false → (a ≡ false) × (b ≡ false)
or-false true b e = absurd (true-not-false refl e)
or-false false b e = (refl, e)

-- two tests that follow from one another are equal
pub iff-eq : (a b : Bool) → (a ≡ true → b ≡ true) → (b ≡ true → a ≡ true) → a ≡ b
iff-eq true b f g = sym (f refl)
iff-eq false true f g = g refl
iff-eq false false f g = refl

-- a test that another takes from
pub except : (a b c : Bool) → (c ≡ true → a ≡ true → ⊥) → (a ≡ true → b ≡ true) → (c ≡ false → b ≡ true → a ≡ true) → a ≡ b && not c
except a b true gone less kept = by_bool a (λ d. absurd (gone refl d)) (λ d. d ∙ sym (and-false b))
except a b false gone less kept = iff-eq a b less (kept refl) ∙ sym (and-true b)

-- what holds at n and at every other number holds everywhere
pub at-or-else : (P : ℕ → Type 0) (n k : ℕ) → P n → (k ≢ n → P k) → P k
at-or-else P n k p q = by_bool (eqb k n) (λ d. subst P (sym (eqb-true k n d)) p) (λ d. q (eqb-false k n d))
