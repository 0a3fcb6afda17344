-- A batch of lookups on a table lent as words: what it answers, and what it leaves in each run of words. Where a run is too short
-- it answers a number that no call gives, and every run is left as lent.
use Rattle.std.specs.Prelude.{ℕ, ◌*◌, Bool, cond, ◌&&◌, List, length, set, get_or, leb, eqb, Ok}
use Rattle.lists.specs.Below.{nth, set_below}
use Rattle.table_words.specs.Words.{table_length, table_from, with_table}
use Rattle.replies.specs.declared.Reply.{Reply}
use Rattle.replies.specs.declared.LookupAnswer.{LookupAnswer}
use Rattle.replies.specs.Reply.{reply_of_lookup}
use Rattle.lookup.specs.Lookup.{lookup_reply}
use Rattle.batch_answer.specs.Answer.{BatchReply}
use Rattle.batch.specs.Batch.{batch_reply, batch_table}
use Rattle.encoding.specs.Encoding.{reply_length, too_short}
use Rattle.replay.specs.Replay.{with_replies}

-- what a batch leaves: the number that it answers, and the words of the table, of the replies, of the order and of the mounts
pub record AfterBatch : Type 0 where
  pub number : ℕ
  pub table : List ℕ
  pub replies : List ℕ
  pub order : List ℕ
  pub mounts : List ℕ

-- every run is long enough for a batch of n ids
unfoldable pub fits_batch : ℕ → List ℕ → List ℕ → List ℕ → List ℕ → Bool
fits_batch n table replies order mounts =
    leb table_length (length table) && (leb (reply_length * n) (length replies) && (leb n (length order) && leb 1 (length mounts)))

-- what is stored of the answer b to the whole list; a refused list leaves the words as lent
unfoldable pub batch_stored : List ℕ → List ℕ → ℕ → List ℕ → List ℕ → List ℕ → List ℕ → BatchReply → AfterBatch
batch_stored table m tenant ids replies order mounts b =
    cond (eqb b.refusal 0)
    (record {
      number = 0;
      table = with_table table (batch_table (table_from table) m tenant ids);
      replies = with_replies (λ i. lookup_reply (table_from table) m tenant (nth ids i)) (length ids) replies;
      order = set_below (nth b.order) (length ids) order;
      mounts = set mounts 0 b.mounts;
    })
    (record { number = b.refusal; table = table; replies = replies; order = order; mounts = mounts })

unfoldable pub after_batch : List ℕ → List ℕ → ℕ → List ℕ → List ℕ → List ℕ → List ℕ → AfterBatch
after_batch table m tenant ids replies order mounts =
    cond (fits_batch (length ids) table replies order mounts)
    (batch_stored table m tenant ids replies order mounts (batch_reply (table_from table) m tenant ids))
    (record { number = too_short; table = table; replies = replies; order = order; mounts = mounts })

-- the reply to the id at position i, by its answer
unfoldable pub lookup_part : List LookupAnswer → ℕ → Reply
lookup_part answers i = reply_of_lookup (get_or answers i (record { value = Ok 0; opened = 0 }))
