-- `batch_scan::meet` meets its contract. The invariant: the entry is met for the ids passed, and the rest are as before.
use Rattle.batch_scan.specs.Scan.{EntryMet}
use Rattle.batch_scan.proofs.meet.Given as goal

abbrev pub invariant-loop-i : goal.invariant-loop-i
invariant-loop-i l = EntryMet l.word l.entry l.ids.all.now l.i l.initial.newest l.newest
