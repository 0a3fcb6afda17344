-- `placement::write_server` meets its contract. The invariant: the write server is the highest of those left that take.
use Rattle.std.proofs.Common.{◌≡◌, ◌≤◌, length}
use Rattle.lists.specs.Below.{nth, total}
use Rattle.placement.proofs.Rules.{LeftOf}
use Rattle.placement.proofs.write_server.Given as goal

abbrev pub invariant-loop-k : goal.invariant-loop-k
invariant-loop-k l = record {
  within : l.k ≤ length l.weights;
  sum : l.sum ≡ total (nth l.weights) l.k;
  left : LeftOf (nth l.weights) (length l.weights) l.salt l.id l.k;
}
