-- `batch_words::store_replies` meets its contract. The invariant: the replies to the ids passed are stored.
use Rattle.std.proofs.Common.{◌≡◌}
use Rattle.replay.specs.Replay.{with_replies}
use Rattle.batch_words.specs.BatchWords.{lookup_part}
use Rattle.batch_words.proofs.store_replies.Given as goal

abbrev pub invariant-loop-i : goal.invariant-loop-i
invariant-loop-i l = l.replies ≡ with_replies (lookup_part l.batch.answers) l.i l.initial.replies
