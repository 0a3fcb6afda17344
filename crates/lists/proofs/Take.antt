-- The first of two lists, one after the other.
-- Assumes nothing.
use Prim.Native.Nat.{ℕ, zero, suc, ◌-◌}
use mathlib.Core.Path.{◌≡◌, refl, sym, ap}
use mathlib.Core.List.{List, [], ◌∷◌, ◌++◌}
use native.Mathlib.Nat.{sub-zero, suc-sub-suc, zero-sub}
use lib.ListN.{length, take}

pub take-append : {A : Type 0} (n : ℕ) (xs ys : List A) → take n (xs ++ ys) ≡ take n xs ++ take (n - length xs) ys
take-append zero [] ys = refl
take-append zero (x ∷ xs) ys = ap (λ (k : ℕ). take k ys) (sym (zero-sub (length (x ∷ xs))))
take-append (suc n) [] ys = ap (λ (k : ℕ). take k ys) (sym (sub-zero (suc n)))
take-append (suc n) (x ∷ xs) ys = rw suc-sub-suc (ap (λ (r : List _). x ∷ r) (take-append n xs ys))
