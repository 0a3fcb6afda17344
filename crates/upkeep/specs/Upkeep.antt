-- The tables that calls make of a table.
use Rattle.std.specs.Prelude.{ℕ, suc, List, set}
use Rattle.lists.specs.Below.{nth, set_below}
use Rattle.counters.specs.Counter.{counted}
use Rattle.placement.specs.declared.Fraction.{Fraction}
use Rattle.placement.specs.Fraction.{raise}
use Rattle.placement.specs.Rule.{write_p}
use Rattle.table.specs.declared.Table.{Table}
use Rattle.table.specs.Parts.{shape_of, table_by, with_counters, read_p}

-- one server more, of this weight: nothing is used, and ReadP is WriteP
unfoldable pub with_server : Table → ℕ → Table
with_server t weight =
    let k = t.count in
    let weights = set t.weights k weight in
    let write = write_p (nth weights) k in
    table_by
    (record { capacity = t.capacity; salt = t.salt; count = suc k })
    weights
    (set t.used k 0)
    (set t.numerators k write.num)
    (set t.denominators k write.den)
    t.counters

-- another weight for a server; then each server whose WriteP is strictly greater than its ReadP takes that pair
unfoldable pub with_weight : Table → ℕ → ℕ → Table
with_weight t server weight =
    let weights = set t.weights server weight in
    let read : ℕ → Fraction = λ k. raise (read_p t k) (write_p (nth weights) k) in
    table_by
    (shape_of t)
    weights
    t.used
    (set_below (λ k. (read k).num) t.count t.numerators)
    (set_below (λ k. (read k).den) t.count t.denominators)
    t.counters

-- the column of the entries used, with one more on a server
unfoldable pub one_more : List ℕ → ℕ → List ℕ
one_more used server = set used server (suc (nth used server))

unfoldable pub with_entry : Table → ℕ → Table
with_entry t server = table_by (shape_of t) t.weights (one_more t.used server) t.numerators t.denominators t.counters

-- servers opened for a tenant: its counter alone changes
unfoldable pub with_opened : Table → ℕ → ℕ → Table
with_opened t tenant opened = with_counters t (counted t.counters tenant opened)
