-- `batch_scan::Sought::pass_all` meets its contract. The invariant: the entries of the blocks from `b` on are passed.
use Rattle.std.proofs.Common.{◌+◌, ◌*◌, length}
use Rattle.batch_scan.specs.Scan.{tested_entries, Passed}
use Rattle.batch_scan.proofs.Sought.pass_all.Given as goal

abbrev pub invariant-loop-b : goal.invariant-loop-b
invariant-loop-b l = Passed l.medium l.base l.self.ids.now.all.now (length l.self.ids.now.all.now) (l.rest + tested_entries * l.b) l.used l.initial.newest l.newest
