-- `batch_words::store_replies` meets its contract. The invariant: the replies to the ids passed are stored.
use Rattle.std.proofs.Common.{List, ℕ, refl, ap, ◌∙◌, sym, arith}
use Rattle.encoding.specs.Encoding.{with_reply}
use Rattle.replay.specs.Replay.{with_replies}
use Rattle.replay.proofs.Replaying.{replies-more}
use Rattle.batch_words.specs.BatchWords.{lookup_part}
use Rattle.batch_words.proofs.Storing.{part-read, read-fits}
use Rattle.batch_words.proofs.store_replies.Goals as goal

pub loop-i-init : goal.loop-i-init
unfolding with_replies
loop-i-init c = refl

pub store-requires-clause-server_bound : goal.store-requires-clause-server_bound
store-requires-clause-server_bound c =
    rw c.lookup_reply.ensures (read-fits c.args.batch.now.answers c.args.n c.loop-i.i (omega arith) c.args.batch.now.few (omega arith))

pub loop-i-preserved : goal.loop-i-preserved
loop-i-preserved c =
    let f = lookup_part c.args.batch.now.answers in
    let r = c.lookup_reply.ensures ∙ part-read c.args.batch.now.answers c.args.n c.loop-i.i (omega arith) in
    c.store.ensures ∙ ap (with_reply c.loop-i.replies c.loop-i.i) r ∙ ap (λ (words : List ℕ). with_reply words c.loop-i.i (f c.loop-i.i)) c.loop-i.invariant ∙ sym (replies-more f c.loop-i.i c.args.replies.now)
