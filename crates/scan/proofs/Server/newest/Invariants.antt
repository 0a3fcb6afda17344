-- `scan::Server::newest` meets its contract. The invariant: the highest live entry is one of those left.
use Rattle.std.proofs.Common.{◌≡◌, ◌≤◌}
use Rattle.lists.specs.Below.{highest}
use Rattle.medium.specs.Entry.{live}
use Rattle.scan.proofs.Server.newest.Given as goal

abbrev pub invariant-loop-left : goal.invariant-loop-left
invariant-loop-left l =
    let alive = live l.self.capacity l.self.used l.self.medium.now l.id l.self.number in
    (l.left ≤ l.self.used) × (highest alive l.self.used ≡ highest alive l.left)

abbrev pub decreases-loop-left : goal.decreases-loop-left
decreases-loop-left l = l.left
