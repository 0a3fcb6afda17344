-- `some_words::run` meets its contract: the table by the test whether no burn is left over.
use mathlib.Core.Path.{sym, ◌∙◌}
use mathlib.Core.Bool.{true, false}
use native.Mathlib.Omega.{arith}
use Rattle.some_words.proofs.Counted.{counts_some, counted-some}
use Rattle.some_words.proofs.run.Goals as goal

pub count-requires : goal.count-requires
count-requires c =
    let a = c.args in
    counts_some a.table.now a.medium.now a.call (omega (arith, c.told-table)) _ (rw c.view_of-view.ensures.table at c.run_some-reply.ensures.reply)

pub returns-then-is_whole-clause-table : goal.returns-then-is_whole-clause-table
returns-then-is_whole-clause-table c =
    let a = c.args in
    let r = rw c.view_of-view.ensures.table at c.run_some-reply.ensures.reply in
    c.count.ensures ∙ counted-some a.table.now a.medium.now a.call (omega (arith, c.told-table)) _ r a.burns true (sym c.if-is_whole.true ∙ c.is_whole.ensures)

pub returns-else-is_whole-clause-table : goal.returns-else-is_whole-clause-table
returns-else-is_whole-clause-table c =
    let a = c.args in
    let r = rw c.view_of-view.ensures.table at c.run_some-reply.ensures.reply in
    counted-some a.table.now a.medium.now a.call (omega (arith, c.told-table)) _ r a.burns false (sym c.if-is_whole.false ∙ c.is_whole.ensures)
