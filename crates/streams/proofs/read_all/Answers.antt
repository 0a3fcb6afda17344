-- `streams::read_all` keeps its invariant: a read's bytes stand after those read before.
use Rattle.std.proofs.Common.{rules}
use Rattle.streams.proofs.Joining.{read-after}
use Rattle.streams.proofs.read_all.Goals as goal

pub loop-done-preserved : goal.loop-done-preserved
loop-done-preserved g c =
    (search rules, search rules, read-after _ _ _ _ _ _ _ c.in-Ok.ensures.before c.loop-done.invariant.2 c.in-Ok.ensures.known.0)
