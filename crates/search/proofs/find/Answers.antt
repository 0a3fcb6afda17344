-- `search::find` meets its contract: each server is skipped, missed or the one where the entry is met.
use mathlib.Core.Path.{◌≡◌, sym, ◌∙◌}
use native.Mathlib.Omega.{arith}
use Rattle.table.specs.Parts.{table_of}
use Rattle.search.proofs.Finding.{each-inside, all_left, server-skipped, server-met, server-missed, no-server-left}
use Rattle.search.proofs.find.Goals as goal

pub loop-server-init : goal.loop-server-init
loop-server-init c = record { few = omega arith; left = all_left _ _ _ }

pub invariant_of-opening-clause-inside : goal.invariant_of-opening-clause-inside
invariant_of-opening-clause-inside c = each-inside _ _ _ _ _ c.requires (omega arith)

pub returns-in-Some : goal.returns-in-Some
returns-in-Some c =
    let s = c.loop-server in
    sym (s.invariant.left ∙ server-met (table_of c.args.table.now) c.args.medium.now c.args.id s.opened s.server (omega arith) (rw c.read_p.ensures at c.takes.ensures) c.if-takes.true c.newest.ensures _ c.in-Some.is)

pub loop-server-preserved-in_default : goal.loop-server-preserved-in_default
loop-server-preserved-in_default c =
    let s = c.loop-server in
    record {
      few = omega arith;
      left = s.invariant.left ∙ server-missed (table_of c.args.table.now) c.args.medium.now c.args.id s.opened s.server (omega arith) (rw c.read_p.ensures at c.takes.ensures) c.if-takes.true c.newest.ensures c.in_default.is;
    }

pub loop-server-preserved : goal.loop-server-preserved
loop-server-preserved c =
    let s = c.loop-server in
    record {
      few = omega arith;
      left = s.invariant.left ∙ server-skipped (table_of c.args.table.now) c.args.medium.now c.args.id s.opened s.server (omega arith) (rw c.read_p.ensures at c.takes.ensures) c.if-takes.false;
    }

pub returns : goal.returns
returns c =
    let s = c.loop-server in
    let none : s.server ≡ 0 = omega arith in
    sym ((rw none at s.invariant.left) ∙ no-server-left (table_of c.args.table.now) c.args.medium.now c.args.id s.opened)
