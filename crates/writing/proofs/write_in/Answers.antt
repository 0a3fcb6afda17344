-- `writing::write_in` meets its contract: what the tests say; where they accept, the entry's two words and the marks of the earlier
-- entries.
use native.Mathlib.Omega.{arith}
use borrow.Author.Rules.{rules}
use Rattle.std.proofs.lemmas.Result.{err_from_is_err_and}
use Rattle.medium.specs.Word.{mark_content}
use Rattle.table.specs.Parts.{table_of}
use Rattle.replies.specs.Reply.{reply_of_write}
use Rattle.replies.proofs.Answers.{check-refused, check-accepted}
use Rattle.writing.proofs.Done.{write-refused, placed, inside-burned, written}
use Rattle.writing.proofs.write_in.Goals as goal

pub returns-in_err-server : goal.returns-in_err-server
unfolding reply_of_write
returns-in_err-server c =
    let p = err_from_is_err_and c.from_residual.result c.from_residual.ensures.1 in
    let w = write-refused (table_of c.args.table.now) c.args.medium.now c.args.tenant c.args.id c.args.value c.args.burns _ (check-refused _ c.plan_write.ensures.number c.in_err-server.was) in
    record { reply = rw (p.1, p.2) (w.0); medium = w.1 }

pub offset_bounds-table-server : goal.offset_bounds-table-server
offset_bounds-table-server c =
    let p = placed _ _ _ _ _ _ (check-accepted _ c.plan_write.ensures.number c.in_ok-server.was) c.in_ok-server.ensures.server in search rules

pub bounds-table-server : goal.bounds-table-server
bounds-table-server c = (placed _ _ _ _ _ _ (check-accepted _ c.plan_write.ensures.number c.in_ok-server.was) c.in_ok-server.ensures.server).few

pub entry_at-at-requires : goal.entry_at-at-requires
entry_at-at-requires c =
    let p = placed _ _ _ _ _ _ (check-accepted _ c.plan_write.ensures.number c.in_ok-server.was) c.in_ok-server.ensures.server in omega arith

pub enter-requires : goal.enter-requires
enter-requires c =
    let p = placed _ _ _ _ _ _ (check-accepted _ c.plan_write.ensures.number c.in_ok-server.was) c.in_ok-server.ensures.server in
    record { value_place_in_bounds = omega (arith, c.entry_at-at.ensures, p.words); value_lt_content_range = p.small }

pub invalidate-invalidated-requires : goal.invalidate-invalidated-requires
unfolding mark_content
invalidate-invalidated-requires c =
    let p = placed _ _ _ _ _ _ (check-accepted _ c.plan_write.ensures.number c.in_ok-server.was) c.in_ok-server.ensures.server in
    record { all_inside = rw c.enter.ensures (inside-burned _ _ _ _ _ p.inside); content_lt_content_range = omega (arith, c.content-content.ensures) }

pub returns : goal.returns
unfolding reply_of_write mark_content
returns c =
    let z = check-accepted _ c.plan_write.ensures.number c.in_ok-server.was in
    let w = written (table_of c.args.table.now) c.args.medium.now c.args.tenant c.args.id c.args.value c.args.burns z c.in_ok-server.server c.entry_at-at.result _ c.saturating_sub-left.result _ c.in_ok-server.ensures.server c.entry_at-at.ensures
    (search rules) (rw c.enter.ensures at c.invalidate-invalidated.ensures.count) (rw (c.enter.ensures, c.content-content.ensures) at c.invalidate-invalidated.ensures.words) in
    record { reply = w.0; medium = w.1 }
