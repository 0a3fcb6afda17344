-- Testing, choosing, counting and adding among the numbers below n.
use Rattle.std.specs.Prelude.{ℕ, zero, suc, ◌+◌, Bool, true, false, cond, ◌&&◌, ◌||◌, List, [], ◌∷◌, ◌++◌, get_or, set, Option, None, Some}

-- what stands at position k of a list of numbers, and 0 past its end
abbrev pub nth : List ℕ → ℕ → ℕ
nth xs k = get_or xs k 0

-- every number below n passes
unfoldable pub all_below : (ℕ → Bool) → ℕ → Bool
all_below p zero = true
all_below p (suc n) = p n && all_below p n

-- some number below n passes
unfoldable pub some_below : (ℕ → Bool) → ℕ → Bool
some_below p zero = false
some_below p (suc n) = p n || some_below p n

-- the highest number below n that passes
unfoldable pub highest : (ℕ → Bool) → ℕ → Option ℕ
highest p zero = None
highest p (suc n) = cond (p n) (Some n) (highest p n)

unfoldable pub or_zero : Option ℕ → ℕ
or_zero None = 0
or_zero (Some n) = n

-- the numbers below n that pass, lowest first
unfoldable pub upward : (ℕ → Bool) → ℕ → List ℕ
upward p zero = []
upward p (suc n) = upward p n ++ cond (p n) (n ∷ []) []

-- the same, highest first
unfoldable pub downward : (ℕ → Bool) → ℕ → List ℕ
downward p zero = []
downward p (suc n) = cond (p n) (n ∷ []) [] ++ downward p n

-- how many numbers below n pass
unfoldable pub count_below : (ℕ → Bool) → ℕ → ℕ
count_below p zero = 0
count_below p (suc n) = cond (p n) 1 0 + count_below p n

-- f 0 + .. + f (n - 1)
unfoldable pub total : (ℕ → ℕ) → ℕ → ℕ
total f zero = 0
total f (suc n) = total f n + f n

-- a list with each position k below n set to f k
unfoldable pub set_below : (ℕ → ℕ) → ℕ → List ℕ → List ℕ
set_below f zero xs = xs
set_below f (suc n) xs = set (set_below f n xs) n (f n)

-- the lists f 0, .., f (n - 1), one after another
unfoldable pub join_below : (ℕ → List ℕ) → ℕ → List ℕ
join_below f zero = []
join_below f (suc n) = join_below f n ++ f n
