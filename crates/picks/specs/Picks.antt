-- The write servers of many ids over the same weights and under the same salt.
use Rattle.std.specs.Prelude.{ℕ, min, Bool, cond, ◌&&◌, List, length, leb, ltb}
use Rattle.limits.specs.Limits.{max_servers, max_capacity, content_range}
use Rattle.lists.specs.Below.{nth, all_below}

-- weight k is at most 65,536
abbrev pub light : List ℕ → ℕ → Bool
light weights k = leb (nth weights k) max_capacity

-- there are 1 to 256 weights, each of at most 65,536
unfoldable pub bounded : List ℕ → Bool
bounded weights = leb 1 (length weights) && (leb (length weights) max_servers && all_below (light weights) (length weights))

-- how many ids get their write server: as many as both slices have room for, and none where the weights are not bounded or the salt
-- is out of range
unfoldable pub picks_of : List ℕ → ℕ → List ℕ → List ℕ → ℕ
picks_of weights salt ids servers = cond (bounded weights && ltb salt content_range) (min (length ids) (length servers)) 0
