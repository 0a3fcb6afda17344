-- `batch_scan::Sought::pass_all` meets its contract. The invariant: the entries of the blocks from `b` on are passed.
use Rattle.std.proofs.Common.{◌≡◌, ◌+◌, ◌*◌, ◌-◌, ◌%◌, length, refl, sym, ◌∙◌, arith, rules}
use Rattle.batch_scan.specs.Scan.{tested_entries}
use Rattle.batch_scan.proofs.Passing.{passed_then, passed-block}
use Rattle.batch_scan.proofs.Sought.pass_all.Goals as goal

pub loop-b-preserved : goal.loop-b-preserved
loop-b-preserved c =
    let a = c.args in
    let low = a.used % 8 + tested_entries * (c.loop-b.b - 1) in
    let top : a.used % 8 + tested_entries * c.loop-b.b ≡ a.used % 8 + tested_entries * (c.loop-b.b - 1) + tested_entries = omega arith in
    passed_then _ _ _ _ (rw top at c.loop-b.invariant)
    (passed-block a.medium.now a.base a.self.now.ids.now.all.now (length a.self.now.ids.now.all.now) a.self.now.filter.now (search rules) tested_entries low (a.base + 3 * low) c.loop-b.newest refl (sym c.touches.ensures ∙ c.if-touches.false))
