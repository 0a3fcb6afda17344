-- The published rule: WriteP, the write server and the readable servers.
-- The rule is over any modulus and any draw of each server; the archive's own are 2^32 and the draw of an id under its salt.
use Rattle.std.specs.Prelude.{ℕ, suc, ◌≤◌, ◌<◌, Bool, true, false, cond, List, ◌≡◌, eqb, length}
use Rattle.limits.specs.Limits.{max_servers, max_capacity}
use Rattle.lists.specs.Below.{nth, highest, or_zero, total}
use Rattle.draws.specs.Draw.{modulus, draw_of}
use Rattle.placement.specs.declared.Fraction.{Fraction}
use Rattle.placement.specs.Fraction.{exceeds}

-- server 0 has 1/1, a later one of weight 0 has 0/1, and any other has its weight over the sum of the weights up to it
unfoldable pub share_of : ℕ → ℕ → ℕ → Fraction
share_of k weight sum =
    cond (eqb k 0) (record { num = 1; den = 1 })
    (cond (eqb weight 0) (record { num = 0; den = 1 })
    (record { num = weight; den = sum }))

-- WriteP of server k
unfoldable pub write_p : (ℕ → ℕ) → ℕ → Fraction
write_p weight k = share_of k (weight k) (total weight (suc k))

-- the fraction of server k exceeds its draw
unfoldable pub takes : ℕ → (ℕ → ℕ) → (ℕ → Fraction) → ℕ → Bool
takes m draw f k = exceeds m (f k) (draw k)

-- the highest of n servers whose WriteP exceeds its draw
unfoldable pub pick : ℕ → (ℕ → ℕ) → (ℕ → ℕ) → ℕ → ℕ
pick m draw weight n = or_zero (highest (takes m draw (write_p weight)) n)

-- the write server of an id under a salt, document 01's write shelf
unfoldable pub write_server : (ℕ → ℕ) → ℕ → ℕ → ℕ → ℕ
write_server weight n salt id = pick modulus (draw_of salt id) weight n

-- server k is readable for an id under a salt by these fractions, which are ReadP
unfoldable pub readable : (ℕ → Fraction) → ℕ → ℕ → ℕ → Bool
readable f salt id k = takes modulus (draw_of salt id) f k

-- what the pick of n servers is, in the paper's words and without recursion: of the servers below n that take, it is the highest
pub record Picked (m : ℕ) (draw weight : ℕ → ℕ) (n k : ℕ) : Type 0 where
  pub below : k < n
  pub takes_it : takes m draw (write_p weight) k ≡ true
  pub none_above : (i : ℕ) → k < i → i < n → takes m draw (write_p weight) i ≡ false

-- at most 256 servers and a weight for each, of at most 65,536: their sum is at most 2^24
pub record Bounded (weights : List ℕ) (n : ℕ) : Type 0 where
  pub few : n ≤ max_servers
  pub each : n ≤ length weights
  pub light : (k : ℕ) → k < n → nth weights k ≤ max_capacity
