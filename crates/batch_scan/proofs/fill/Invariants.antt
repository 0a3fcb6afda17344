-- `batch_scan::fill` meets its contract. The invariant: the slots of the ids passed are set.
use Rattle.std.proofs.Common.{◌≡◌, length}
use Rattle.batch_scan.specs.Scan.{slots, Covers}
use Rattle.batch_scan.proofs.fill.Given as goal

abbrev pub invariant-loop-id : goal.invariant-loop-id
invariant-loop-id l = (length l.filter ≡ slots) × Covers l.filter l.ids l.id-index
