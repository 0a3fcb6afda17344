-- The draw of an id on a server (document 01, "The draw", and document 02, item 4): xorshift of 32 bits, shifts 13, 17 and 5.
-- Server is document 01's shelf, id its ticket number.
use Rattle.std.specs.Prelude.{ℕ, ◌+◌, ◌*◌, ◌/◌, ◌%◌, ◌^◌, Bool, cond, ◌&&◌, List, length, ◌==◌, bit_xor, nat_eq}
use Rattle.limits.specs.Limits.{max_servers}
use Rattle.lists.specs.Below.{nth, all_below}

-- 2^32: steps, seeds and draws are numbers below it
abbrev pub modulus : ℕ
modulus = 4294967296

-- the step of server k
unfoldable pub step_of : ℕ → ℕ
step_of k = (k + 1) * 2654435769 % modulus

-- the rule of a table of steps, one test of all its entries together: entry k is the step of server k
unfoldable pub are_steps : List ℕ → Bool
are_steps words = length words == max_servers && all_below (λ k. nat_eq (nth words k) (step_of k)) max_servers

-- a seed of 0 becomes 1
unfoldable pub nonzero : ℕ → ℕ
nonzero s = cond (s == 0) 1 s

-- the seed of an id on server k under a salt, document 02's rack key; document 01's seed is that of salt 0
unfoldable pub seed_of : ℕ → ℕ → ℕ → ℕ
seed_of salt id k = nonzero ((id + step_of k + salt) % modulus)

-- s xor s shifted left, the low 32 bits kept; s xor s shifted right
unfoldable pub xor_left : ℕ → ℕ → ℕ
xor_left n s = bit_xor s (s * 2 ^ n % modulus)

unfoldable pub xor_right : ℕ → ℕ → ℕ
xor_right n s = bit_xor s (s / 2 ^ n)

unfoldable pub round_of : ℕ → ℕ
round_of s = xor_left 5 (xor_right 17 (xor_left 13 s))

-- the seed after three rounds
unfoldable pub draw_of : ℕ → ℕ → ℕ → ℕ
draw_of salt id k = round_of (round_of (round_of (seed_of salt id k)))
