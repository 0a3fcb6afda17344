-- `vectors::run_all` ends: each line begins after the one before.
use Rattle.std.proofs.Common.{length, ◌-◌}
use Rattle.vectors.proofs.run_all.Given as goal

abbrev pub decreases-loop-at : goal.decreases-loop-at
decreases-loop-at g l = length l.input - l.at
