-- `batch_scan::Sought::pass` meets its contract. The invariant: the entries from `j` on are passed.
use Rattle.std.proofs.Common.{◌+◌, ◌*◌, ◌-◌, refl, length, rules, false, get_or}
use borrow.Author.Tests.{eqb-true}
use Rattle.lists.proofs.Tests.{and_r}
use Rattle.batch_scan.proofs.Passing.{passed_then, passed_over, passed-met}
use Rattle.batch_scan.proofs.Sought.pass.Goals as goal

pub loop-j-preserved-then-self-slot : goal.loop-j-preserved-then-self-slot
loop-j-preserved-then-self-slot c =
    let a = c.args in
    let n = length a.self.now.ids.now.all.now in (
      search rules,
      passed_then _ _ _ _ c.loop-j.invariant.1
          (passed-met a.medium.now a.base a.self.now.ids.now.all.now n c.loop-j.j (a.base + 3 * (c.loop-j.j - 1)) (search rules) refl c.loop-j.newest c.meet.new.newest (eqb-true _ _ (and_r (get_or a.self.now.filter.now c.slot.result false) _ c.if-self-slot.true)) c.meet.ensures),
    )

pub loop-j-preserved : goal.loop-j-preserved
loop-j-preserved c =
    let a = c.args in
    let n = length a.self.now.ids.now.all.now in (
      search rules,
      passed_then _ _ _ _ c.loop-j.invariant.1
          (passed_over a.medium.now a.base a.self.now.ids.now.all.now n c.loop-j.j (a.base + 3 * (c.loop-j.j - 1)) (search rules) refl a.self.now.filter.now (search rules) c.loop-j.newest c.slot.result c.slot.ensures c.if-self-slot.false),
    )
