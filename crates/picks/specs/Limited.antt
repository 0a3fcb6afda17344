-- What the functions behind `picks` hand to one another: servers with their limits. No public contract cites it.
use Rattle.std.specs.Prelude.{ℕ, suc, ◌≤◌, ◌<◌, Bool, ◌&&◌, List, ◌≡◌, length, leb, ltb}
use Rattle.limits.specs.Limits.{max_servers}
use Rattle.lists.specs.Below.{nth, total}
use Rattle.draws.specs.Draw.{modulus, draw_of}
use Rattle.placement.specs.declared.Fraction.{Fraction}
use Rattle.placement.specs.Fraction.{exceeds}

-- servers whose draws are compared together
abbrev pub block : ℕ
block = 8

-- the weight of server k over the sum of the weights up to it, by which each server but 0 is tested as by WriteP
abbrev pub part_of : List ℕ → ℕ → Fraction
part_of weights k = record { num = nth weights k; den = total (nth weights) (suc k) }

-- that part exceeds the draw of an id on the server under a salt
abbrev pub passes : List ℕ → ℕ → ℕ → ℕ → Bool
passes weights salt id k = exceeds modulus (part_of weights k) (draw_of salt id k)

-- at most 256 weights, and a limit for each: its part exceeds just the draws up to its limit, and none where the weight is 0
pub record Limited (weights limits : List ℕ) : Type 0 where
  pub few : length weights ≤ max_servers
  pub rule : (k x : ℕ) → k < length weights → x < modulus → exceeds modulus (part_of weights k) x ≡ ltb 0 (nth weights k) && leb x (nth limits k)
