-- `streams::write_all` keeps its invariant: a write's bytes come after those written before.
use Rattle.std.proofs.Common.{rules}
use Rattle.streams.proofs.Joining.{written-after}
use Rattle.streams.proofs.write_all.Goals as goal

pub loop-done-preserved : goal.loop-done-preserved
loop-done-preserved g c = (search rules, written-after _ _ _ _ _ _ c.loop-done.invariant.1 c.in-Ok.ensures.known)
