-- `servers::start` meets its contract: what the test says, and the table that goes with it.
use mathlib.Core.Path.{sym, ◌∙◌}
use Rattle.std.proofs.lemmas.Result.{err_from_is_err_and}
use Rattle.replies.specs.Reply.{check_number, reply_of_check}
use Rattle.replies.proofs.Refusals.{settle-yes}
use Rattle.replies.proofs.Answers.{kept, reply-refused, reply-done}
use Rattle.server_rows.specs.ServerRows.{start_rows}
use Rattle.servers.specs.Servers.{start_reply, start_table}
use Rattle.servers.proofs.start.Goals as goal

pub returns-in_err-start-clause-reply : goal.returns-in_err-start-clause-reply
unfolding check_number reply_of_check start_reply
returns-in_err-start-clause-reply c =
    let p = err_from_is_err_and c.from_residual.result c.from_residual.ensures.1 in
    rw (p.1, p.2) (reply-refused (start_rows c.args.capacity c.args.salt) _ c.in_err-start.ensures _)

pub returns-in_err-start-clause-table : goal.returns-in_err-start-clause-table
unfolding check_number start_table
returns-in_err-start-clause-table c =
    let p = err_from_is_err_and c.from_residual.result c.from_residual.ensures.1 in
    rw p.1 (kept (start_rows c.args.capacity c.args.salt) _ c.in_err-start.ensures _ _)

pub returns-clause-reply : goal.returns-clause-reply
unfolding check_number reply_of_check start_reply
returns-clause-reply c = sym (reply-done (start_rows c.args.capacity c.args.salt) (sym c.in_ok-start.ensures) _)

pub returns-clause-table : goal.returns-clause-table
unfolding check_number start_table
returns-clause-table c = c.empty.ensures ∙ sym (settle-yes (start_rows c.args.capacity c.args.salt) _ _ (sym c.in_ok-start.ensures))
