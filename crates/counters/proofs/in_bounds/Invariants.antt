-- `counters::in_bounds` meets its contract. The invariant: whether no counter passed is above its bound.
use Rattle.std.proofs.Common.{◌≡◌, leb}
use Rattle.limits.specs.Limits.{max_counter}
use Rattle.lists.specs.Below.{nth, all_below}
use Rattle.counters.proofs.in_bounds.Given as goal

abbrev pub invariant-loop-counter : goal.invariant-loop-counter
invariant-loop-counter l = l.within ≡ all_below (λ k. leb (nth l.counters k) max_counter) l.counter-index
