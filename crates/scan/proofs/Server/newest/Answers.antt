-- `scan::Server::newest` meets its contract: the entries that are left at the end are searched too.
use Rattle.std.proofs.Common.{sym, ◌∙◌}
use Rattle.scan.proofs.Passing.{all-searched}
use Rattle.scan.proofs.Server.newest.Goals as goal

pub returns : goal.returns
returns c = all-searched _ c.loop-left.left c.newest_of.result c.newest_of.ensures ∙ sym c.loop-left.invariant.1
