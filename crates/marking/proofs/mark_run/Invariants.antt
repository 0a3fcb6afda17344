-- `marking::mark_run` meets its contract. The invariant: the groups passed are done, as `Marked` says.
use Rattle.std.proofs.Common.{◌*◌}
use Rattle.marking.proofs.Marked.{Marked}
use Rattle.marking.proofs.mark_run.Given as goal

abbrev pub invariant-loop-group : goal.invariant-loop-group
invariant-loop-group l = Marked l.initial.medium l.id l.from l.content l.burns l.counted (4 * l.group) l.medium l.marks
