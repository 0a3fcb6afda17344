-- `scan::Server::newest_in_blocks` meets its contract. The invariant: the highest live entry is one of those left.
use Rattle.std.proofs.Common.{◌≡◌, ◌+◌, ◌*◌}
use Rattle.lists.specs.Below.{highest}
use Rattle.medium.specs.Entry.{live}
use Rattle.scan.proofs.Server.newest_in_blocks.Given as goal

abbrev pub invariant-loop-block : goal.invariant-loop-block
invariant-loop-block l =
    let alive = live l.self.capacity l.self.used l.self.medium.now l.id l.self.number in
    highest alive l.self.used ≡ highest alive (l.rest + 32 * l.block)
