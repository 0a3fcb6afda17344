-- `planning::plan_write` meets its contract: what the shared tests say, a return for each row after them, and the write server where
-- none applies.
use mathlib.Core.Path.{sym, ◌∙◌}
use native.Mathlib.Omega.{arith}
use borrow.Author.Rules.{rules}
use borrow.Author.Tests.{eq-eqb, ne_eqb}
use Rattle.std.proofs.lemmas.Result.{err_from_is_err_and}
use Rattle.table.specs.Parts.{table_of}
use Rattle.replies.specs.Reply.{number_of, check_number}
use Rattle.replies.proofs.Refusals.{first-earlier}
use Rattle.replies.proofs.Answers.{number-not-zero, check-refused, check-accepted}
use Rattle.checks.proofs.Passed.{asked-numbered, asked-ready}
use Rattle.planning.specs.WriteRows.{target, write_rows}
use Rattle.planning.proofs.EntryRows.{entry-full, planned, words_there, blank_there, burned_there}
use Rattle.planning.proofs.plan_write.Goals as goal

pub returns-in_err-asked-clause-number : goal.returns-in_err-asked-clause-number
unfolding check_number write_rows
returns-in_err-asked-clause-number c =
    let p = err_from_is_err_and c.from_residual.result c.from_residual.ensures.1 in
    let e = check-refused _ c.asked.ensures c.in_err-asked.was in
    rw (p.1, p.2) (e ∙ sym (first-earlier _ _ (asked-numbered (table_of c.args.table.now) c.args.medium.now c.args.tenant c.args.id _) (λ z. number-not-zero _ (e ∙ z))))

pub invariant_of-sound : goal.invariant_of-sound
invariant_of-sound c = record { tested = (asked-ready (table_of c.args.table.now) _ _ _ _ (check-accepted _ c.asked.ensures c.in_ok-asked.was)).is_sound }

pub offset_bounds-table-server : goal.offset_bounds-table-server
unfolding target
offset_bounds-table-server c =
    let g = planned (table_of c.args.table.now) _ _ _ _ c.target_of-server.result (check-accepted _ c.asked.ensures c.in_ok-asked.was) c.target_of-server.ensures in
    search rules

pub bounds-table-server : goal.bounds-table-server
unfolding target
bounds-table-server c =
    let g = planned (table_of c.args.table.now) _ _ _ _ c.target_of-server.result (check-accepted _ c.asked.ensures c.in_ok-asked.was) c.target_of-server.ensures in
    omega arith

pub returns-then-entry-shape-clause-number : goal.returns-then-entry-shape-clause-number
unfolding check_number number_of target
returns-then-entry-shape-clause-number c =
    let g = planned (table_of c.args.table.now) _ _ _ _ c.target_of-server.result (check-accepted _ c.asked.ensures c.in_ok-asked.was) c.target_of-server.ensures in
    sym (g.rest ∙ entry-full _ _ _ _ c.target_of-server.ensures (eq-eqb _ _ c.if-entry-shape.true))

pub entry_at-at-requires : goal.entry_at-at-requires
unfolding target
entry_at-at-requires c =
    let g = planned (table_of c.args.table.now) _ _ _ _ c.target_of-server.result (check-accepted _ c.asked.ensures c.in_ok-asked.was) c.target_of-server.ensures in
    omega arith

pub is_blank-requires : goal.is_blank-requires
unfolding target
is_blank-requires c =
    let g = planned (table_of c.args.table.now) _ _ _ _ c.target_of-server.result (check-accepted _ c.asked.ensures c.in_ok-asked.was) c.target_of-server.ensures in
    words_there _ _ _ _ _ _ g c.target_of-server.ensures (ne_eqb _ _ c.if-entry-shape.false) c.entry_at-at.ensures

pub returns-then-not-is_blank-clause-number : goal.returns-then-not-is_blank-clause-number
unfolding check_number number_of target
returns-then-not-is_blank-clause-number c =
    let g = planned (table_of c.args.table.now) _ _ _ _ c.target_of-server.result (check-accepted _ c.asked.ensures c.in_ok-asked.was) c.target_of-server.ensures in
    burned_there _ _ _ _ _ _ g c.target_of-server.ensures (ne_eqb _ _ c.if-entry-shape.false) c.entry_at-at.ensures c.is_blank.ensures c.if-not-is_blank.true

pub returns-clause-number : goal.returns-clause-number
unfolding check_number target
returns-clause-number c =
    let g = planned (table_of c.args.table.now) _ _ _ _ c.target_of-server.result (check-accepted _ c.asked.ensures c.in_ok-asked.was) c.target_of-server.ensures in
    blank_there _ _ _ _ _ _ g c.target_of-server.ensures (ne_eqb _ _ c.if-entry-shape.false) c.entry_at-at.ensures c.is_blank.ensures c.if-not-is_blank.false
