-- `servers::reweight` meets its contract: what the tests say, and the table with the weight changed.
use mathlib.Core.Path.{sym, ◌∙◌}
use Rattle.std.proofs.lemmas.Result.{err_from_is_err_and}
use Rattle.replies.specs.Reply.{check_number, reply_of_server}
use Rattle.replies.proofs.Refusals.{settle-yes}
use Rattle.replies.proofs.Answers.{kept, reply-refused, reply-done}
use Rattle.server_rows.proofs.Accepted.{reweight-accepted}
use Rattle.servers.specs.Servers.{reweight_reply, reweight_table}
use Rattle.servers.proofs.reweight.Goals as goal

pub returns-in_err-reweight-clause-reply : goal.returns-in_err-reweight-clause-reply
unfolding check_number reply_of_server reweight_reply
returns-in_err-reweight-clause-reply c =
    let p = err_from_is_err_and c.from_residual.result c.from_residual.ensures.1 in
    rw (p.1, p.2) (reply-refused _ _ (rw c.view.ensures at c.in_err-reweight.ensures) _)

pub returns-in_err-reweight-clause-table : goal.returns-in_err-reweight-clause-table
unfolding check_number reweight_table
returns-in_err-reweight-clause-table c = kept _ _ (rw c.view.ensures at c.in_err-reweight.ensures) _ _

pub set_weight-requires : goal.set_weight-requires
unfolding check_number
set_weight-requires c =
    let s = reweight-accepted _ _ _ (sym (rw c.view.ensures at c.in_ok-reweight.ensures)) in
    record { table_value = s.is_sound; server_lt_count = s.there; weight_le_capacity = s.light }

pub returns-clause-reply : goal.returns-clause-reply
unfolding check_number reply_of_server reweight_reply
returns-clause-reply c = sym (reply-done _ (sym (rw c.view.ensures at c.in_ok-reweight.ensures)) _)

pub returns-clause-table : goal.returns-clause-table
unfolding check_number reweight_table
returns-clause-table c = c.set_weight.ensures ∙ sym (settle-yes _ _ _ (sym (rw c.view.ensures at c.in_ok-reweight.ensures)))
