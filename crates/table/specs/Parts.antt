-- A table taken apart and put together again: its shape, which is the numbers that it has once and not for each
-- server or tenant, its four columns and its counters, in the order of the fields.
use Rattle.std.specs.Prelude.{ℕ, Bool, List, replicate}
use Rattle.limits.specs.Limits.{max_servers, tenants}
use Rattle.lists.specs.Below.{nth}
use Rattle.placement.specs.declared.Fraction.{Fraction}
use Rattle.placement.specs.Rule.{readable}
use Rattle.table.specs.declared.Table.{Table}
use Rattle.table.specs.declared.Shape.{Shape}
use Rattle.table.specs.declared.View.{View}

abbrev pub shape_of : Table → Shape
shape_of t = record { capacity = t.capacity; salt = t.salt; count = t.count }

abbrev pub table_by : Shape → List ℕ → List ℕ → List ℕ → List ℕ → List ℕ → Table
table_by shape weights used numerators denominators counters = record {
  capacity = shape.capacity;
  salt = shape.salt;
  count = shape.count;
  weights = weights;
  used = used;
  numerators = numerators;
  denominators = denominators;
  counters = counters;
}

-- a table but for its counters
abbrev pub with_counters : Table → List ℕ → Table
with_counters t counters = table_by (shape_of t) t.weights t.used t.numerators t.denominators counters

-- the table that is lent
abbrev pub table_of : View → Table
table_of v = table_by v.shape v.weights.now v.used.now v.numerators.now v.denominators.now v.counters.now

-- a column of zeros, and the table of count 0, whose counters are zeros too
abbrev pub zeros : List ℕ
zeros = replicate max_servers 0

abbrev pub empty : ℕ → ℕ → Table
empty capacity salt = table_by (record { capacity = capacity; salt = salt; count = 0 }) zeros zeros zeros zeros (replicate tenants 0)

-- the entries of each server
abbrev pub entries_of : Table → ℕ
entries_of t = t.capacity

-- weight, entries used and ReadP of server k
abbrev pub weight_of : Table → ℕ → ℕ
weight_of t k = nth t.weights k

abbrev pub used_of : Table → ℕ → ℕ
used_of t k = nth t.used k

abbrev pub read_p : Table → ℕ → Fraction
read_p t k = record { num = nth t.numerators k; den = nth t.denominators k }

-- the servers that lookups of a tenant opened, up to a counter's bound
abbrev pub opened_of : Table → ℕ → ℕ
opened_of t tenant = nth t.counters tenant

-- server k is read for an id: its ReadP exceeds its draw under the table's salt
abbrev pub reads : Table → ℕ → ℕ → Bool
reads t id k = readable (read_p t) t.salt id k
