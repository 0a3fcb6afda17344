-- What holds of the numbers below n, where they stand in a list, by the library's words.
-- Assumes nothing.
use Rattle.std.proofs.Common.{◌≡◌, ℕ, zero, suc, ◌+◌, ◌≤◌, Bool, ◌&&◌, ◌||◌, List, length, take, drop, ◌++◌, sum, refl, sym, arith}
use Rattle.std.specs.List.{list_all, list_any}
use Rattle.std.proofs.Math.Bool.{and_comm, or_comm}
use Rattle.std.proofs.lemmas.List.{take_all}
use Rattle.std.proofs.lemmas.List.Sums.{sum_by_more}
use Rattle.std.proofs.lemmas.List.Folds.{list_all_more, list_any_more}
use lib.Seq.{take-suc, drop-cons, append_snoc, set_at, length-take-le}
use native.Mathlib.Numerals.{add-one}
use Rattle.lists.specs.Below.{nth, all_below, some_below, total, set_below}

pub total-sum : (xs : List ℕ) (n : ℕ) → n ≤ length xs → total (nth xs) n ≡ sum (take n xs)
unfolding total
total-sum xs zero l = refl
total-sum xs (suc n) l =
    let more : sum (take (suc n) xs) ≡ sum (take n xs) + nth xs n = rw add-one at (sum_by_more (λ x. x) xs n 0 (omega arith)) in
    rw (more, total-sum xs n (omega arith))

all_below-take : (p : ℕ → Bool) (xs : List ℕ) (n : ℕ) → n ≤ length xs → all_below (λ k. p (nth xs k)) n ≡ list_all p (take n xs)
unfolding all_below
all_below-take p xs zero l = refl
all_below-take p xs (suc n) l =
    let more : list_all p (take (suc n) xs) ≡ list_all p (take n xs) && p (nth xs n) = rw add-one at (list_all_more p xs n 0 (omega arith)) in
    rw (more, all_below-take p xs n (omega arith)) (and_comm (p (nth xs n)) (list_all p (take n xs)))

pub some_below-take : (p : ℕ → Bool) (xs : List ℕ) (n : ℕ) → n ≤ length xs → some_below (λ k. p (nth xs k)) n ≡ list_any p (take n xs)
unfolding some_below
some_below-take p xs zero l = refl
some_below-take p xs (suc n) l =
    let more : list_any p (take (suc n) xs) ≡ list_any p (take n xs) || p (nth xs n) = rw add-one at (list_any_more p xs n 0 (omega arith)) in
    rw (more, some_below-take p xs n (omega arith)) (or_comm (p (nth xs n)) (list_any p (take n xs)))

pub all_below-list : (p : ℕ → Bool) (xs : List ℕ) → all_below (λ k. p (nth xs k)) (length xs) ≡ list_all p xs
all_below-list p xs =
    let all : take (length xs) xs ≡ xs = take_all _ xs (omega arith) in
    rw all at (all_below-take p xs (length xs) (omega arith))

-- the first n numbers of one list stored in front of another
pub set_below-take : (xs ys : List ℕ) (n : ℕ) → n ≤ length xs → n ≤ length ys → set_below (nth xs) n ys ≡ take n xs ++ drop n ys
unfolding set_below
set_below-take xs ys zero a b = refl
set_below-take xs ys (suc n) a b =
    rw (
      set_below-take xs ys n (omega arith) (omega arith),
      drop-cons ys n 0 (omega arith),
      set_at (take n xs) (nth ys n) (drop (suc n) ys) (nth xs n) n (length-take-le n xs (omega arith)),
      take-suc xs n 0 (omega arith),
    )
    (sym (append_snoc (take n xs) (nth xs n) (drop (suc n) ys)))
