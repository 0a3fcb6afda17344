-- `sheet_call::run` meets its contract: add_server and reweight on the table, every other call on the table as it is lent.
use Rattle.std.proofs.Common.{rules}
use Rattle.table.proofs.Soundness.{Arrays}
use Rattle.dispatch.proofs.Calling.{by-test, counts, counted-table}
use Rattle.sheet_call.proofs.run.Goals as goal

pub run_change-requires : goal.run_change-requires
run_change-requires c = by-test c.args.call _ _ c.is_some_and.ensures c.if-is_some_and.true

pub run_in-reply-requires : goal.run_in-reply-requires
run_in-reply-requires c = by-test c.args.call _ _ c.is_some_and.ensures c.if-is_some_and.false

pub count_write-requires : goal.count_write-requires
count_write-requires c =
    let a = c.args in
    let arrays : Arrays a.table.now = search rules in
    counts (record { table = a.table.now; medium = a.medium.now }) a.call c.run_in-reply.result (rw c.view-view.ensures at c.run_in-reply.ensures.reply) arrays.used

pub returns-clause-table : goal.returns-clause-table
returns-clause-table c =
    let a = c.args in
    let reply = rw c.view-view.ensures at c.run_in-reply.ensures.reply in
    rw (c.count_write.ensures, c.count_lookup.ensures) (counted-table (record { table = a.table.now; medium = a.medium.now }) a.call c.run_in-reply.result (by-test a.call _ _ c.is_some_and.ensures c.if-is_some_and.false) reply)
