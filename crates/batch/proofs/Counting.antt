-- What a batch counts: the opened counts of its single lookups, and nothing where the list is refused as a whole.
-- Assumes nothing.
use Prim.Native.Nat.{ℕ, ◌≤◌}
use mathlib.Core.Path.{◌≡◌, sym, ap, ◌∙◌}
use mathlib.Core.Logic.{◌≢◌}
use mathlib.Core.List.{List}
use Rattle.std.specs.Prelude.{Result, Ok, Err}
use native.Mathlib.Omega.{arith}
use lib.ListN.{length}
use Rattle.limits.specs.Limits.{max_ids}
use Rattle.lists.specs.Below.{nth, total}
use Rattle.lists.proofs.Below.{nth-zeros, total-rest}
use Rattle.table.specs.declared.Table.{Table}
use Rattle.upkeep.specs.Upkeep.{with_opened}
use Rattle.replies.specs.Refusal.{first_of}
use Rattle.replies.proofs.Refusals.{settle-yes, settle-no}
use Rattle.replies.proofs.Answers.{number-not-zero}
use Rattle.lookup.specs.Lookup.{lookup_reply}
use Rattle.replies.specs.declared.Refusal.{Refusal}
use Rattle.replies.specs.Reply.{number_of}
use Rattle.lookup.proofs.Counting.{opened-none}
use Rattle.batch_answer.specs.declared.Batch.{Batch}
use Rattle.batch_answer.specs.Answer.{BatchReply, opened_counts_of, reply_of_batch, batch_by, refused_batch, opened_in, settled_batch}
use Rattle.batch_answer.proofs.Filled.{filled-total}
use Rattle.batch.specs.Batch.{batch_rows, batch_reply, batch_table}
use Rattle.batch.proofs.BatchParts.{batch-accepted}

-- a list that is refused as a whole has no opened count
refused_none : (number : ℕ) → opened_in (refused_batch number) ≡ 0
unfolding opened_in total
refused_none number = total-rest _ 0 max_ids (omega arith) (λ k l. nth-zeros max_ids k)

module _ (t : Table) (m : List ℕ) (tenant : ℕ) (ids : List ℕ) where
  pub opened-singly : length ids ≤ max_ids → opened_in (batch_reply t m tenant ids) ≡ total (λ i. (lookup_reply t m tenant (nth ids i)).opened) (length ids)
  unfolding opened_in batch_reply settled_batch batch_by
  opened-singly few =
      ap (λ (b : BatchReply). total (nth b.opened) max_ids) (settle-yes (batch_rows t ids) _ _ (batch-accepted t ids few))
      ∙ filled-total (λ i. (lookup_reply t m tenant (nth ids i)).opened) (length ids) few

  pub batch-left : first_of (batch_rows t ids) ≢ 0 → batch_table t m tenant ids ≡ t
  unfolding batch_table batch_reply settled_batch
  batch-left n =
      ap (λ (b : BatchReply). with_opened t tenant (opened_in b)) (settle-no (batch_rows t ids) _ _ n)
      ∙ ap (with_opened t tenant) (refused_none (first_of (batch_rows t ids)))
      ∙ opened-none t tenant

  -- an answer that has a refusal's number is of a list that is refused as a whole
  pub refused-left : (r : Refusal) → refused_batch (number_of r) ≡ batch_reply t m tenant ids → batch_table t m tenant ids ≡ t
  unfolding batch_reply settled_batch batch_by
  refused-left r e = batch-left (λ z. number-not-zero r (ap (λ (b : BatchReply). b.refusal) (e ∙ settle-yes (batch_rows t ids) _ _ z)))

  -- what the code's answer tells of the table that it leaves, and of the sum of its opened counts
  module _ {a : Result Batch Refusal} (e : reply_of_batch a ≡ batch_reply t m tenant ids) where
    pub left-as-lent : {r : Refusal} → a ≡ Err r → t ≡ batch_table t m tenant ids
    unfolding reply_of_batch
    left-as-lent {r} f = sym (refused-left r (sym (ap reply_of_batch f) ∙ e))

    module _ {b : Batch} (f : a ≡ Ok b) where
      answered : opened_counts_of b.answers ≡ (batch_reply t m tenant ids).opened
      unfolding reply_of_batch
      answered = ap (λ (x : BatchReply). x.opened) (sym (ap reply_of_batch f) ∙ e)

      pub counted-whole : {opened : ℕ} → opened ≡ total (nth (opened_counts_of b.answers)) max_ids → with_opened t tenant opened ≡ batch_table t m tenant ids
      unfolding batch_table opened_in
      counted-whole o = ap (with_opened t tenant) (o ∙ ap (λ (xs : List ℕ). total (nth xs) max_ids) answered)
