-- `scan::Server::newest_of` meets its contract: the entries from `low` on are searched, and below them are the others.
use Rattle.std.proofs.Common.{◌∙◌, sym, arith}
use Rattle.lists.proofs.Below.{highest-few}
use Rattle.scan.proofs.Passing.{run-found}
use Rattle.scan.proofs.Server.newest_of.Goals as goal

pub returns-in_err-i : goal.returns-in_err-i
returns-in_err-i c =
    let a = c.args.self.now in
    let none = rw c.in_err-i.was at (run-found a.capacity a.used a.medium.now c.args.id a.number c.args.low c.args.n c.requires _ c.last_of.ensures) in
    rw c.from_residual.ensures none

pub overflow_add-result : goal.overflow_add-result
overflow_add-result c =
    let a = c.args.self.now in
    omega (arith, highest-few _ c.args.n c.in_ok-i.i (sym c.last_of.ensures ∙ c.in_ok-i.was), c.requires, a.few, a.inside.small)

pub returns : goal.returns
returns c =
    let a = c.args.self.now in
    rw c.in_ok-i.was at (run-found a.capacity a.used a.medium.now c.args.id a.number c.args.low c.args.n c.requires _ c.last_of.ensures)
