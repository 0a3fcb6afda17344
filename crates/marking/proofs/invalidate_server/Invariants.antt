-- `marking::invalidate_server` meets its contract. The invariant: the entries passed are done, as `Marked` says.
use Rattle.std.proofs.Common.{◌≤◌, ◌-◌}
use Rattle.marking.proofs.Marked.{Marked}
use Rattle.marking.proofs.invalidate_server.Given as goal

abbrev pub invariant-loop-done : goal.invariant-loop-done
invariant-loop-done l = (l.done ≤ l.used) × Marked l.initial.medium l.id l.first l.content l.burns l.n l.done l.medium l.marks

abbrev pub decreases-loop-done : goal.decreases-loop-done
decreases-loop-done l = l.used - l.done
