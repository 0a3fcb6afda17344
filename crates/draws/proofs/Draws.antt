-- A draw is below 2^32: all that the layers above know of it. And what a salt does to it.
-- Assumes nothing.
use Rattle.std.proofs.Common.{◌≡◌, ℕ, ◌+◌, ◌*◌, ◌/◌, ◌%◌, ◌^◌, ◌<◌, eqb, ap, div-le_self, arith}
use lib.Bits.{xor_lt}
use Rattle.lists.proofs.Tests.{by_bool}
use Rattle.draws.specs.Draw.{modulus, step_of, nonzero, seed_of, xor_left, xor_right, round_of, draw_of}

left< : (n s : ℕ) → s < modulus → xor_left n s < modulus
unfolding xor_left
left< n s h = xor_lt 32 s (s * 2 ^ n % modulus) h (omega arith)

right< : (n s : ℕ) → s < modulus → xor_right n s < modulus
unfolding xor_right
right< n s h = xor_lt 32 s (s / 2 ^ n) h (omega (arith, div-le_self s (2 ^ n)))

round< : (s : ℕ) → s < modulus → round_of s < modulus
unfolding round_of
round< s h = left< 5 _ (right< 17 _ (left< 13 s h))

nonzero< : (s : ℕ) → s < modulus → nonzero s < modulus
unfolding nonzero
nonzero< s h = by_bool (eqb s 0) (λ e. rw e (omega arith)) (λ e. rw e h)

pub draw< : (salt id k : ℕ) → draw_of salt id k < modulus
unfolding draw_of seed_of
draw< salt id k = round< _ (round< _ (round< _ (nonzero< _ (omega arith))))

-- salt 0 is no salt: the seed is document 01's
pub plain-seed : (id k : ℕ) → seed_of 0 id k ≡ nonzero ((id + step_of k) % modulus)
unfolding seed_of
plain-seed id k = ap (λ (s : ℕ). nonzero (s % modulus)) (omega arith)

-- a salt draws for an id what no salt draws for the id that is greater by the salt
pub salted-draw : (salt id k : ℕ) → draw_of salt id k ≡ draw_of 0 (id + salt) k
unfolding draw_of seed_of
salted-draw salt id k = ap (λ (s : ℕ). round_of (round_of (round_of (nonzero (s % modulus))))) (omega arith)
