-- `vectors::lines::numbers`: k is one of the eight places.
use Rattle.std.proofs.Common.{◌<◌}
use Rattle.vectors.proofs.lines.numbers.Given as goal

abbrev pub invariant-loop-b : goal.invariant-loop-b
invariant-loop-b l = l.k < 8
