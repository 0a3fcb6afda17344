-- Words copied into an array of zeros: none yet, one more, and all of them; and what `copy_from_slice` leaves.
-- Assumes nothing.
use Prim.Native.Nat.{ℕ, suc, ◌+◌, ◌-◌, ◌<◌}
use mathlib.Core.Path.{◌≡◌, refl, sym, ap, ◌∙◌}
use mathlib.Core.List.{List, ◌++◌, append-nil}
use native.Mathlib.Numerals.{add-one}
use native.Mathlib.Omega.{arith}
use Rattle.std.proofs.Common.{length-take}
use Rattle.std.proofs.lemmas.List.{drop-replicate}
use lib.ListN.{length, take, drop, set, replicate, length-drop}
use lib.Seq.{length-take-le, take-suc, append_snoc, set_at, get_or-drop, take_all, paste}
use Rattle.lists.specs.Below.{nth}

-- n words from a position on, and zeros up to the size of an array
unfoldable pub array_at : ℕ → List ℕ → ℕ → ℕ → List ℕ
array_at size words from n = take n (drop from words) ++ replicate (size - n) 0

pub array_at-none : (size : ℕ) (words : List ℕ) (from : ℕ) → replicate size 0 ≡ array_at size words from 0
unfolding array_at
array_at-none size words from =
    let all : size - 0 ≡ size = omega arith in
    rw all

pub array_at-more : (size : ℕ) (words : List ℕ) (from i : ℕ) → i < size → from + i < length words
    → set (array_at size words from i) i (nth words (from + i)) ≡ array_at size words from (i + 1)
unfolding array_at
array_at-more size words from i few inside =
    let run : List ℕ = drop from words in
    let left : size - i ≡ suc (size - (i + 1)) = omega arith in
    let here : i < length run = simp length-drop (omega arith) in
    let there : nth words (from + i) ≡ nth run i = sym (get_or-drop from words i 0) in
    rw (left, there, set_at (take i run) 0 (replicate (size - (i + 1)) 0) (nth run i) i (length-take-le i run (omega arith)))
    (sym (ap (λ (l : List ℕ). l ++ replicate (size - (i + 1)) 0) (ap (λ (n : ℕ). take n run) (add-one i) ∙ take-suc run i 0 here) ∙ append_snoc (take i run) (nth run i) _))

pub array_at-whole : (size : ℕ) (words : List ℕ) (from : ℕ) → array_at size words from size ≡ take size (drop from words)
unfolding array_at
array_at-whole size words from =
    let none : size - size ≡ 0 = omega arith in
    rw none (append-nil (take size (drop from words)))

-- what `zeros[..n].copy_from_slice(&words[from..from + n])` leaves, zeros an array of zeros of this size
pub array_at-pasted : (size : ℕ) (words : List ℕ) (from n : ℕ) → paste (replicate size 0) 0 (take n (drop from words)) n ≡ array_at size words from n
unfolding array_at
array_at-pasted size words from n =
    let run : List ℕ = take n (drop from words) in
    let all : take n run ≡ run = take_all n run (simp length-take (omega arith)) in
    let zero_on : 0 + n ≡ n = omega arith in
    let left : drop n (replicate {A = ℕ} size 0) ≡ replicate (size - n) 0 = drop-replicate n size 0 in
    rw (zero_on, all, left) refl
