-- `servers::add_server` meets its contract: what the tests say, and the table with a server more.
use mathlib.Core.Path.{sym, ◌∙◌}
use Rattle.std.proofs.lemmas.Result.{err_from_is_err_and}
use Rattle.replies.specs.Reply.{check_number, reply_of_server}
use Rattle.replies.proofs.Refusals.{settle-yes}
use Rattle.replies.proofs.Answers.{kept, reply-refused, reply-done}
use Rattle.server_rows.proofs.Accepted.{add_server-accepted}
use Rattle.servers.specs.Servers.{add_server_reply, add_server_table}
use Rattle.servers.proofs.add_server.Goals as goal

pub returns-in_err-add_server-clause-reply : goal.returns-in_err-add_server-clause-reply
unfolding check_number reply_of_server add_server_reply
returns-in_err-add_server-clause-reply c =
    let p = err_from_is_err_and c.from_residual.result c.from_residual.ensures.1 in
    rw (p.1, p.2) (reply-refused _ _ (rw c.view.ensures at c.in_err-add_server.ensures) _)

pub returns-in_err-add_server-clause-table : goal.returns-in_err-add_server-clause-table
unfolding check_number add_server_table
returns-in_err-add_server-clause-table c = kept _ _ (rw c.view.ensures at c.in_err-add_server.ensures) _ _

pub add_server-requires-2 : goal.add_server-requires-2
unfolding check_number
add_server-requires-2 c =
    let s = add_server-accepted _ _ _ (sym (rw c.view.ensures at c.in_ok-add_server.ensures)) in
    record { table_value = s.is_sound; count_lt_max_servers = s.few; weight_le_capacity = s.light }

pub returns-clause-reply : goal.returns-clause-reply
unfolding check_number reply_of_server add_server_reply
returns-clause-reply c = sym (reply-done _ (sym (rw c.view.ensures at c.in_ok-add_server.ensures)) _)

pub returns-clause-table : goal.returns-clause-table
unfolding check_number add_server_table
returns-clause-table c = c.add_server-2.ensures ∙ sym (settle-yes _ _ _ (sym (rw c.view.ensures at c.in_ok-add_server.ensures)))
