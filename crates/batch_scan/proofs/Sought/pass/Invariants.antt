-- `batch_scan::Sought::pass` meets its contract. The invariant: the entries from `j` on are passed.
use Rattle.std.proofs.Common.{length, ◌≤◌}
use Rattle.batch_scan.specs.Scan.{Passed}
use Rattle.batch_scan.proofs.Sought.pass.Given as goal

abbrev pub invariant-loop-j : goal.invariant-loop-j
invariant-loop-j l = (l.low ≤ l.j) × Passed l.medium l.base l.self.ids.now.all.now (length l.self.ids.now.all.now) l.j l.high l.initial.newest l.newest
