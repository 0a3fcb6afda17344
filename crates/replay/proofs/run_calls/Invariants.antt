-- `replay::run_calls` meets its contract. The invariant: the calls so far are run, as `Replayed` says.
use Rattle.replay.proofs.Replaying.{Replayed}
use Rattle.replay.proofs.run_calls.Given as goal

abbrev pub invariant-loop-i : goal.invariant-loop-i
invariant-loop-i l = Replayed l.initial.table l.initial.medium l.calls l.initial.replies l.i l.table l.medium l.replies
