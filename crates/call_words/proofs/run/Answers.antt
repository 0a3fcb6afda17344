-- `call_words::run` meets its contract: add_server and reweight run on a copy, and every other call on the words, as does what is no
-- call.
use native.Mathlib.Omega.{arith}
use Rattle.dispatch.proofs.Calling.{by-test}
use Rattle.call_words.proofs.Calling.{counts-there, counted_words}
use Rattle.call_words.proofs.run.Goals as goal

pub run_change-requires : goal.run_change-requires
run_change-requires c = by-test c.args.call _ _ c.on_copy.ensures c.if-on_copy.true

pub run_in-reply-requires : goal.run_in-reply-requires
run_in-reply-requires c = by-test c.args.call _ _ c.on_copy.ensures c.if-on_copy.false

pub count-requires : goal.count-requires
count-requires c =
    counts-there c.args.table.now c.args.medium.now c.args.call (omega (arith, c.told-table)) _ (rw c.view_of.ensures.table at c.run_in-reply.ensures.reply)

pub returns-clause-table : goal.returns-clause-table
returns-clause-table c =
    counted_words c.args.table.now c.args.medium.now c.args.call (omega (arith, c.told-table)) _ (rw c.view_of.ensures.table at c.run_in-reply.ensures.reply)
    (by-test c.args.call _ _ c.on_copy.ensures c.if-on_copy.false) _ _ c.count.ensures c.count_lookup.ensures
