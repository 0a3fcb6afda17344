-- A batch of lookups answers as the ledger does.
-- Assumes nothing.
use Prim.Native.Nat.{ℕ, ◌<◌}
use mathlib.Core.Path.{◌≡◌, refl, sym, ap, ap₂, ◌∙◌}
use mathlib.Core.Bool.{Bool, false, ◌&&◌, and-false}
use mathlib.Core.List.{List}
use Rattle.std.specs.Prelude.{Option, None, Some}
use lib.Dec.{leb, eqb}
use borrow.Author.Tests.{eqb-true}
use Rattle.lists.specs.Below.{nth}
use Rattle.lists.proofs.Tests.{by_bool}
use Rattle.table.specs.declared.Table.{Table}
use Rattle.replies.proofs.Refusals.{settle-both}
use Rattle.search.specs.Opened.{lowest, opens}
use Rattle.lookup.specs.Lookup.{lookup_rows}
use Rattle.lookup.proofs.Passed.{lookup-asked}
use Rattle.batch_answer.proofs.Orders.{batch-cong}
use Rattle.batch.specs.Batch.{lookup_opens, opened_at, batch_reply, batch_rows, batch_table}
use Rattle.batch_answer.specs.Answer.{BatchReply, too_long, batch_by, settled_batch}
use Rattle.replies.specs.Refusal.{first_of, settle}
use Rattle.history.specs.Call.{batch, Compared, compared}
use Rattle.history.specs.Machine.{in_brief}
use Rattle.history.specs.Ledger.{Event, Ledger, told, Version, last_write_of, lookup_rows_l, rows_of, done_of, enter, lowest_l, opens_l, opened_at_l, batch_l, batch_rows_l}
use Rattle.history.proofs.Entering.{entered}
use Rattle.history.proofs.Events.{place_of, came-placed, none-placed}
use Rattle.history.proofs.Agree.{Agree, agree-opened, Step, same_reads, same_met}
use Rattle.history.proofs.LookupStep.{same_rows, lookup-step}

lowest-from : (events : List Event) (id : ℕ) (o : Option Version) → last_write_of events id ≡ o → lowest (place_of events id) ≡ lowest_l o
unfolding lowest lowest_l
lowest-from events id None e = rw (none-placed events id e)
lowest-from events id (Some x) e = rw (came-placed events id x e)

module _ {t : Table} {m : List ℕ} {L : Ledger} (A : Agree t m L) where
  -- a lookup opens the same servers
  same-opens : (tenant id k : ℕ) → k < t.count → lookup_opens t m tenant id k ≡ opens_l L tenant id k
  unfolding lookup_opens opens_l opens
  same-opens tenant id k l = settle-both (lookup_rows t m tenant id) (lookup_rows_l L tenant id) (same_rows A id tenant) (◌≡◌ {A = Bool}) _ _ false false
      (λ z.
      ap₂ (λ (from : ℕ) (b : Bool). leb from k && b) (ap lowest (same_met A id (lookup-asked t m tenant id z).small) ∙ lowest-from L.events id (last_write_of L.events id) refl) (same_reads A id k l))
      refl

  pub same-batch : (tenant : ℕ) (ids : List ℕ) → batch_reply t m tenant ids ≡ batch_l L tenant ids
  unfolding batch_reply batch_l compared opened_at opened_at_l enter rows_of done_of batch_rows batch_rows_l first_of
  same-batch tenant ids = batch-cong ids (batch_rows t ids) (batch_rows_l ids) (rw (A.is_sound, and-false (too_long ids))) (opened_at t m tenant ids) (opened_at_l L tenant ids) t.count L.servers A.count
      (λ i k l. same-opens tenant (nth ids i) k l) _ _ _ _ _ _
      (λ i.
      let e = (lookup-step A (nth ids i) tenant).alike in
      (ap (λ (c : Compared). c.refusal) e, ap (λ (c : Compared). c.value) e, ap (λ (c : Compared). c.opened) e))

  -- in one reply it is refused as a whole, or not
  batch-number : (tenant : ℕ) (ids : List ℕ) → (batch_l L tenant ids).refusal ≡ first_of (batch_rows_l ids)
  unfolding batch_l settled_batch batch_by settle
  batch-number tenant ids = by_bool (eqb (first_of (batch_rows_l ids)) 0) (λ e. rw e (sym (eqb-true (first_of (batch_rows_l ids)) 0 e))) (λ e. rw e)

  pub batch-step : (tenant : ℕ) (ids : List ℕ) → Step (in_brief (batch_reply t m tenant ids)) (batch_table t m tenant ids) m (enter L (batch tenant ids))
  unfolding enter rows_of done_of compared batch_table
  batch-step tenant ids =
      let e = ap (λ (b : BatchReply). b.refusal) (same-batch tenant ids) ∙ batch-number tenant ids in
      entered (Step (in_brief (batch_reply t m tenant ids)) (batch_table t m tenant ids) m) L (batch_rows_l ids) _
      (λ z. record { alike = ap (λ (n : ℕ). told n 0 0 0) (e ∙ z); agrees = agree-opened A tenant _ })
      (λ f. record { alike = ap (λ (n : ℕ). told n 0 0 0) e; agrees = agree-opened A tenant _ })
