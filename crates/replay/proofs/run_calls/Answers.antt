-- `replay::run_calls` meets its contract: one call more, as `Replayed` counts.
use native.Mathlib.Omega.{arith}
use Rattle.dispatch.proofs.Calling.{called_small}
use Rattle.replay.proofs.Replaying.{none-run, one-run}
use Rattle.replay.proofs.run_calls.Goals as goal

pub loop-i-init : goal.loop-i-init
loop-i-init c = none-run _ _ _ _ (omega (arith, c.told-table))

pub store-requires-clause-server_bound : goal.store-requires-clause-server_bound
store-requires-clause-server_bound c = called_small _ _ c.run-reply.result c.run-reply.ensures.reply

pub loop-i-preserved : goal.loop-i-preserved
loop-i-preserved c =
    let i = c.loop-i in
    one-run _ _ _ _ (omega (arith, c.told-table)) i.i _ _ _ _ _ _ _ _ i.invariant c.call_from-call.ensures c.run-reply.ensures.reply c.run-reply.ensures.table c.run-reply.ensures.medium c.run-reply.auto.medium c.store.ensures
