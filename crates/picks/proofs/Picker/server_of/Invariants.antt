-- `picks::Picker::server_of` meets its contract. The invariant: the write server is the highest of those left that take the id.
use Rattle.std.proofs.Common.{◌+◌, ◌*◌}
use Rattle.picks.specs.Limited.{block}
use Rattle.picks.proofs.Limiting.{ServedBy}
use Rattle.picks.proofs.Picker.server_of.Given as goal

abbrev pub invariant-loop-block : goal.invariant-loop-block
invariant-loop-block l = ServedBy l.self.weights.all.now l.self.salt l.id (l.rest + block * l.block)
