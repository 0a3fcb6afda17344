-- Whether the runs of a batch are long enough, test by test, and what follows where all of them are.
-- Assumes nothing.
use Prim.Native.Nat.{ℕ, ◌*◌, ◌/◌, ◌≤◌, ◌<◌}
use mathlib.Core.Path.{◌≡◌, ◌∙◌}
use mathlib.Core.Bool.{Bool, true, false}
use mathlib.Core.List.{List}
use native.Mathlib.Omega.{arith}
use lib.ListN.{length, replicate, length-replicate}
use lib.Seq.{length-sets}
use lib.Dec.{leb}
use borrow.Author.Tests.{le-leb, lt-leb, leb-true}
use Rattle.lists.proofs.Tests.{and_l, and_r}
use Rattle.table.specs.declared.Table.{Table}
use Rattle.table_words.specs.Words.{table_length}
use Rattle.replies.proofs.Refusals.{settle-either}
use Rattle.batch_answer.specs.Answer.{BatchReply, order, batch_by, settled_batch}
use Rattle.batch.specs.Batch.{opened_at, batch_rows, batch_reply}
use Rattle.encoding.specs.Encoding.{reply_length}
use Rattle.batch_words.specs.BatchWords.{fits_batch}

module _ (n : ℕ) (table replies order mounts : List ℕ) where
  pub no-replies : table_length ≤ length table → length replies / reply_length < n → false ≡ fits_batch n table replies order mounts
  unfolding fits_batch
  no-replies a l = let h : length replies < reply_length * n = omega arith in rw (le-leb _ _ a, lt-leb _ _ h)

  pub no-order : table_length ≤ length table → n ≤ length replies / reply_length → length order < n → false ≡ fits_batch n table replies order mounts
  unfolding fits_batch
  no-order a b l = let h : reply_length * n ≤ length replies = omega arith in rw (le-leb _ _ a, le-leb _ _ h, lt-leb _ _ l)

  pub by-mounts : (b : Bool) → table_length ≤ length table → n ≤ length replies / reply_length → n ≤ length order → b ≡ leb 1 (length mounts) → b ≡ fits_batch n table replies order mounts
  unfolding fits_batch
  by-mounts x a b d e = let h : reply_length * n ≤ length replies = omega arith in rw (le-leb _ _ a, le-leb _ _ h, le-leb _ _ d) e

  pub record AllFit : Type 0 where
    pub has_table : table_length ≤ length table
    pub has_replies : reply_length * n ≤ length replies
    pub has_order : n ≤ length order
    pub has_mounts : 1 ≤ length mounts

  pub all_fit : fits_batch n table replies order mounts ≡ true → AllFit
  unfolding fits_batch
  all_fit e =
      let two = and_r (leb table_length (length table)) _ e in
      let three = and_r (leb (reply_length * n) (length replies)) _ two in
      record {
        has_table = leb-true _ _ (and_l (leb table_length (length table)) _ e);
        has_replies = leb-true _ _ (and_l (leb (reply_length * n) (length replies)) _ two);
        has_order = leb-true _ _ (and_l (leb n (length order)) _ three);
        has_mounts = leb-true _ _ (and_r (leb n (length order)) _ three);
      }

-- the order of an answer has 256 numbers
pub length-order : (t : Table) (m : List ℕ) (tenant : ℕ) (ids : List ℕ) → length (batch_reply t m tenant ids).order ≡ 256
unfolding batch_reply settled_batch batch_by
length-order t m tenant ids = settle-either (batch_rows t ids) _ _ (λ (a : BatchReply). length a.order ≡ 256)
    (λ _. length-sets (replicate 256 0) 0 (order (opened_at t m tenant ids) (length ids) t.count) ∙ length-replicate {A = ℕ} 256 0)
    (length-replicate {A = ℕ} 256 0)
