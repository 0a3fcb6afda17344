-- `invalidation::invalidate` meets its contract. The invariant: the servers passed are done, as `Done` says.
use mathlib.Core.Bool.{Bool, ◌&&◌}
use Prim.Native.Nat.{ℕ}
use lib.Dec.{leb}
use Rattle.table.specs.declared.Table.{Table}
use Rattle.table.specs.Parts.{table_of, used_of, reads}
use Rattle.invalidation.proofs.Invalidating.{Done}
use Rattle.invalidation.proofs.invalidate.Given as goal

-- the test of a server
abbrev pub passes : Table → ℕ → ℕ → ℕ → Bool
passes t id from k = leb from k && reads t id k

abbrev pub invariant-loop-k : goal.invariant-loop-k
invariant-loop-k l =
    let t = table_of l.table in
    Done t.capacity t.count (used_of t) l.initial.medium l.id (passes t l.id l.from) l.content l.burns l.k l.medium l.n
