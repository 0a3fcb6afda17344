-- `sheet_call::run_call` meets its contract: before the first accepted start, and on the table in use.
use Rattle.std.proofs.Common.{rules}
use Rattle.dispatch.proofs.Calling.{called_small}
use Rattle.sheet_call.specs.SheetCall.{call_run}
use Rattle.sheet_call.proofs.Calls.{call-run}
use Rattle.sheet_call.proofs.run_call.Goals as goal

pub returns-in_default : goal.returns-in_default
unfolding call_run
returns-in_default c =
    let none = c.in_default.is in
    record { next = rw none c.put_question.ensures.next; bytes = rw none c.put_question.ensures.bytes; sheet = rw none (search rules) }

pub put_reply-requires-clause-server_bound : goal.put_reply-requires-clause-server_bound
put_reply-requires-clause-server_bound c = called_small _ _ _ c.run-reply.ensures.reply

pub returns : goal.returns
returns c =
    let ran = c.run-reply.ensures in
    let done = call-run c.in-Some.table c.args.medium.now c.args.call _ _ _ ran.reply ran.table ran.medium in
    record { next = rw (c.in-Some.is, done) c.put_reply.ensures.next; bytes = rw (c.in-Some.is, done) c.put_reply.ensures.bytes; sheet = rw (c.in-Some.is, done) }
