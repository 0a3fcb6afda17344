-- `replay::replay` meets its contract: no call after a refused start, and else as many as both slices have room for.
use native.Mathlib.Omega.{arith}
use Rattle.servers.proofs.Starts.{start-accepted, start-refused, start-count}
use Rattle.replay.proofs.Replaying.{started-words, refused-run, all-run}
use Rattle.replay.proofs.replay.Goals as goal

pub returns-in_default : goal.returns-in_default
returns-in_default c =
    let r = refused-run c.args.capacity c.args.salt c.args.medium.now c.args.calls.now c.args.replies.now (start-refused _ _ c.start.ensures.reply c.in_default.is) in
    record { number = r.0; words = r.1.0; replies = r.1.1.0; ledger = r.1.1.1 }

pub store_table-requires : goal.store_table-requires
store_table-requires c = start-count c.args.capacity c.args.salt _ c.in-Ok.ensures.table

pub returns : goal.returns
returns c =
    let s = started-words c.args.capacity c.args.salt c.args.medium.now _ _ _ (omega arith) c.in-Ok.ensures.table c.store_table.ensures in
    let r = all-run c.args.capacity c.args.salt c.args.medium.now c.args.calls.now c.args.replies.now c.room-n.result _ _ _ (start-accepted c.args.capacity c.args.salt c.start.ensures.reply c.in-Ok.is)
    c.room-n.ensures s.0 c.run_calls.ensures.words c.run_calls.ensures.replies in
    record { number = r.0; words = r.1.0; replies = r.1.1.0; ledger = r.1.1.1 }
