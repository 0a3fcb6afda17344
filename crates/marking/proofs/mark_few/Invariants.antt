-- `marking::mark_few` meets its contract. The invariant: the entries passed are done, as `Marked` says.
use Rattle.marking.proofs.Marked.{Marked}
use Rattle.marking.proofs.mark_few.Given as goal

abbrev pub invariant-loop-i : goal.invariant-loop-i
invariant-loop-i l = Marked l.initial.medium l.id l.from l.content l.burns l.counted l.i l.medium l.marks
