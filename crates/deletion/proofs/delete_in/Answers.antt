-- `deletion::delete_in` meets its contract: what the tests say, and the marks of every live entry on every readable server.
use native.Mathlib.Omega.{arith}
use Rattle.std.proofs.lemmas.Result.{err_from_is_err_and}
use Rattle.medium.specs.Word.{mark_content}
use Rattle.table.specs.Parts.{table_of}
use Rattle.replies.specs.Reply.{number_of, reply_of_delete}
use Rattle.replies.proofs.Answers.{check-refused, check-accepted}
use Rattle.checks.proofs.Passed.{asked-ready}
use Rattle.deletion.specs.Deletion.{delete_marks}
use Rattle.deletion.proofs.Done.{delete-refused, deleted-none, deleted-done}
use Rattle.deletion.proofs.delete_in.Goals as goal

pub returns-in_err-asked : goal.returns-in_err-asked
unfolding reply_of_delete
returns-in_err-asked c =
    let p = err_from_is_err_and c.from_residual.result c.from_residual.ensures.1 in
    let d = delete-refused (table_of c.args.table.now) c.args.medium.now c.args.tenant c.args.id c.args.burns _ (check-refused _ c.asked.ensures c.in_err-asked.was) in
    record { reply = rw (p.1, p.2) (d.0); medium = d.1 }

pub invalidate-n-requires : goal.invalidate-n-requires
unfolding mark_content
invalidate-n-requires c = record { all_inside = (asked-ready _ _ _ _ _ (check-accepted _ c.asked.ensures c.in_ok-asked.was)).inside; content_lt_content_range = omega (arith, c.content.ensures) }

pub returns-then-n-eq0 : goal.returns-then-n-eq0
unfolding reply_of_delete number_of delete_marks mark_content
returns-then-n-eq0 c =
    let d = deleted-none (table_of c.args.table.now) c.args.medium.now c.args.tenant c.args.id (check-accepted _ c.asked.ensures c.in_ok-asked.was) c.args.burns _ _ c.invalidate-n.ensures.count (rw c.content.ensures at c.invalidate-n.ensures.words) c.if-n-eq0.true in
    record { reply = d.0; medium = d.1 }

pub returns : goal.returns
unfolding reply_of_delete delete_marks mark_content
returns c =
    let d = deleted-done (table_of c.args.table.now) c.args.medium.now c.args.tenant c.args.id (check-accepted _ c.asked.ensures c.in_ok-asked.was) c.args.burns _ _ c.invalidate-n.ensures.count (rw c.content.ensures at c.invalidate-n.ensures.words) c.if-n-eq0.false in
    record { reply = d.0; medium = d.1 }
