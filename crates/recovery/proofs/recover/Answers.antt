-- `recovery::recover` meets its contract: what the tests say, and the table with every used recounted.
use mathlib.Core.Path.{sym, ◌∙◌}
use native.Mathlib.Omega.{arith}
use borrow.Author.Rules.{rules}
use Rattle.std.proofs.lemmas.Result.{err_from_is_err_and}
use Rattle.table.proofs.Soundness.{Arrays, sound-facts}
use Rattle.replies.specs.Reply.{check_number, reply_of_check}
use Rattle.replies.proofs.Refusals.{settle-yes}
use Rattle.replies.proofs.Answers.{kept, reply-refused, reply-done}
use Rattle.recovery.specs.Recovery.{used_on, recover_reply, recover_table}
use Rattle.recovery.proofs.Recovering.{recover-accepted, recounted}
use Rattle.recovery.proofs.recover.Goals as goal

pub returns-in_err-check-clause-reply : goal.returns-in_err-check-clause-reply
unfolding check_number reply_of_check recover_reply
returns-in_err-check-clause-reply c =
    let p = err_from_is_err_and c.from_residual.result c.from_residual.ensures.1 in
    rw (p.1, p.2) (reply-refused _ _ (rw c.view.ensures at c.in_err-check.ensures) _)

pub returns-in_err-check-clause-table : goal.returns-in_err-check-clause-table
unfolding check_number recover_table
returns-in_err-check-clause-table c = kept _ _ (rw c.view.ensures at c.in_err-check.ensures) _ _

pub recount-requires : goal.recount-requires
unfolding check_number
recount-requires c =
    let t = c.args.table.now in
    let r = recover-accepted t _ (sym (rw c.view.ensures at c.in_ok-check.ensures)) in
    let s = sound-facts t r.is_sound in
    let a : Arrays t = search rules in
    record { capacity_le_max_capacity = (s.high, s.few, r.long); count_in_bounds = omega (arith, s.few, a.used) }

pub returns-clause-reply : goal.returns-clause-reply
unfolding check_number reply_of_check recover_reply
returns-clause-reply c = sym (reply-done _ (sym (rw c.view.ensures at c.in_ok-check.ensures)) _)

pub returns-clause-table : goal.returns-clause-table
unfolding check_number recover_table
returns-clause-table c =
    let t = c.args.table.now in
    recounted t (used_on t.capacity c.args.medium.now) _ c.recount.ensures ∙ sym (settle-yes _ _ _ (sym (rw c.view.ensures at c.in_ok-check.ensures)))
