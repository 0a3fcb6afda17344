-- When a table is sound (document 01, "The table", and document 02, items 4 and 5), for arbitrary bits. Only positions below
-- the count are read.
use Rattle.std.specs.Prelude.{ℕ, Bool, ◌&&◌, ◌||◌, leb, ltb}
use Rattle.limits.specs.Limits.{max_servers, max_capacity, max_sum, content_range}
use Rattle.lists.specs.Below.{all_below}
use Rattle.counters.specs.Counter.{in_bounds}
use Rattle.placement.specs.declared.Fraction.{Fraction}
use Rattle.placement.specs.Fraction.{at_least}
use Rattle.placement.specs.Rule.{write_p}
use Rattle.table.specs.declared.Table.{Table}
use Rattle.table.specs.Parts.{entries_of, weight_of, used_of, read_p}

-- capacity and salt, which a start sets for good, are in range
unfoldable pub in_range : ℕ → ℕ → Bool
in_range capacity salt =
    leb 1 capacity
    && (leb capacity max_capacity
    && ltb salt content_range)

-- ReadP is in range and at least WriteP
unfoldable pub read_sound : Fraction → Fraction → Bool
read_sound read write =
    leb 1 read.den
    && (leb read.den max_sum
    && (leb read.num read.den
    && at_least read write))

unfoldable pub server_sound : Table → ℕ → Bool
server_sound t k =
    leb (weight_of t k) (entries_of t)
    && (leb (used_of t k) (entries_of t)
    && read_sound (read_p t k) (write_p (weight_of t) k))

unfoldable pub sound : Table → Bool
sound t =
    in_range t.capacity t.salt
    && (leb t.count max_servers
    && (in_bounds t.counters
    && all_below (server_sound t) t.count))

-- what is tested before the servers: ReadP of server 0, if it is there, is at least 1, and what a table has once is in range
unfoldable pub first_sound : Table → Bool
first_sound t = ltb t.count 1 || leb (read_p t 0).den (read_p t 0).num

unfoldable pub head_sound : Table → Bool
head_sound t = in_range t.capacity t.salt && (leb t.count max_servers && (in_bounds t.counters && first_sound t))
