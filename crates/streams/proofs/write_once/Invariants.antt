-- `streams::write_once`: a write that a signal broke off put nothing out.
use Rattle.std.specs.Io.KnownBytes.{Keeps}
use Rattle.streams.proofs.write_once.Given as goal

abbrev pub invariant-loop : goal.invariant-loop
invariant-loop g l = Keeps (g.W.Write.contents l.initial.writer) (g.W.Write.contents l.writer)
