-- What a tenant hears of one call that it sees, told by its view.
-- Assumes nothing.
use Prim.Native.Nat.{ℕ}
use mathlib.Core.Path.{◌≡◌, refl, sym, ap, ap₂, ◌∙◌}
use mathlib.Core.Bool.{Bool, true, false, cond, ◌&&◌}
use mathlib.Core.List.{List}
use Rattle.std.specs.Prelude.{Option}
use lib.ListN.{length}
use lib.Dec.{leb, eqb}
use borrow.Author.Tests.{eqb-true}
use Rattle.lists.specs.Below.{nth, count_below}
use Rattle.lists.proofs.Tests.{by_bool, true-not-false}
use Rattle.lists.proofs.Below.{count_below-cong}
use Rattle.tenants.specs.Tenant.{tenant_of}
use Rattle.medium.specs.Burn.{marks_over}
use Rattle.table.specs.Parts.{used_of, reads}
use Rattle.replies.specs.Refusal.{Row, first_of, settle}
use Rattle.replies.specs.declared.Reply.{Reply}
use Rattle.replies.specs.Reply.{reply_by}
use Rattle.replies.proofs.Refusals.{settle-either, settle-both}
use Rattle.replies.proofs.Answers.{reply-number}
use Rattle.lookup.specs.Lookup.{lookup_reply}
use Rattle.lookup.proofs.Plain.{lookup-plain}
use Rattle.deletion.specs.Deletion.{delete_rows, delete_marks, delete_reply}
use Rattle.planning.specs.WriteRows.{write_rows}
use Rattle.writing.specs.Writing.{write_marks, write_reply}
use Rattle.servers.specs.Servers.{add_server_reply, reweight_reply}
use Rattle.batch_answer.proofs.Orders.{batch-cong}
use Rattle.history.specs.Call.{Call, add_server, reweight, write, delete, lookup, batch, Compared, compared}
use Rattle.history.specs.Machine.{State, reply}
use Rattle.history.specs.Ledger.{Ledger, Version, Entered, enter_by, target_l, lookup_rows_l, lookup_l, lowest_l, opens_l, opened_at_l, batch_rows_l, batch_l, rows_of, done_of, enter, reads_l}
use Rattle.history.proofs.Agree.{same_target, same_reads, same-marks}
use Rattle.history.proofs.Batches.{same-batch}
use Rattle.history.proofs.Run.{Agrees, step}
use Rattle.history.proofs.LiveRule.{Rules, table-ruled}
use Rattle.isolation.specs.Seen.{sees, supposed, verdict, shown, to_call, to_batch, shown_by}
use Rattle.isolation.proofs.LiveOn.{live_on, length_over}
use Rattle.isolation.proofs.View.{events_of, trimmed, view, shown_l, accepts, enter_v, live_from, lost_v, whole, reply_v, shown_v, live_own, last-own}
use Rattle.isolation.proofs.Entering.{Verdict, own-tenant, write-own, delete-own, lookup-own, viewed, lookup-view, number, accepts-view, seen-enters}

-- the number of invalidated entries in a reply
no-loss : (rows : List Row) (done : Reply) → done.invalidated ≡ 0 → (reply_by rows done).invalidated ≡ 0
unfolding reply_by
no-loss rows done z = settle-either rows done _ (λ (r : Reply). r.invalidated ≡ 0) (λ _. z) refl

loss : (rows : List Row) (done : Reply) → done.refusal ≡ 0 → (reply_by rows done).invalidated ≡ cond (eqb (reply_by rows done).refusal 0) done.invalidated 0
unfolding reply_by settle
loss rows done z = rw (reply-number rows done z) (by_bool (eqb (first_of rows) 0) (λ d. rw d) (λ d. rw d))

module _ (tenant : ℕ) (S : State) (L : Ledger) (A : Agrees S L) (R : Rules L S.medium) where
  abbrev K : Ledger
  K = view tenant L

  -- an accepted call invalidates as many in the view, and a refused one none
  lost-alike : (c : Call) → sees tenant c ≡ true → (ok : Bool) → Verdict S c ok → (done_of L c).reply.refusal ≡ 0
      → (n n' : ℕ) → (first_of (rows_of L c) ≡ 0 → n ≡ n') → cond (verdict S c) n 0 ≡ cond (accepts K c ok) n' 0
  lost-alike c s ok by z n n' f = rw (number tenant S L A c z, ← (accepts-view tenant S L A c s ok by)) (by_bool (eqb (first_of (rows_of L c)) 0)
      (λ d. rw d (f (eqb-true (first_of (rows_of L c)) 0 d)))
      (λ d. rw d))

  -- the marks of an id of the tenant
  marks-number : (id : ℕ) → tenant_of id ≡ tenant → (from from_l : ℕ) → from ≡ from_l
      → length (marks_over S.table.capacity (used_of S.table) S.medium id (λ k. leb from k && reads S.table id k) S.table.count) ≡ live_from K id from_l
  unfolding live_from trimmed
  marks-number id own from from_l e =
      let p : (ℕ → Bool) = λ k. leb from_l k && reads_l L id k in
      ap length (same-marks A id _ p (λ k l. ap₂ (λ (j : ℕ) (b : Bool). leb j k && b) e (same_reads A id k l)))
      ∙ length_over A.holds (table-ruled A R) id p S.table.count
      ∙ count_below-cong (λ k. p k && live_on L.events id k) (λ k. p k && live_on (events_of tenant L.events) id k) S.table.count
      (λ k l. ap (λ (b : Bool). p k && b) (sym (live_own tenant id own L.events k)))
      ∙ ap (count_below (λ k. p k && live_on (events_of tenant L.events) id k)) A.count

  seen-lost : (c : Call) → sees tenant c ≡ true → (ok : Bool) → Verdict S c ok → (reply S c).invalidated ≡ lost_v K c (accepts K c ok)
  unfolding sees verdict reply lost_v done_of rows_of add_server_reply reweight_reply write_reply delete_reply lookup_reply write_marks delete_marks target_l trimmed
  seen-lost (add_server weight) s ok by = no-loss _ _ refl
  seen-lost (reweight server weight) s ok by = no-loss _ _ refl
  seen-lost (write caller id value) s ok by =
      loss (write_rows S.table S.medium caller id value) _ refl
      ∙ lost-alike (write caller id value) s ok by refl _ _ (λ z. marks-number id (own-tenant tenant caller id (write-own L caller id value z) s) _ _ (same_target A id))
  seen-lost (delete caller id) s ok by =
      loss (delete_rows S.table S.medium caller id) _ refl
      ∙ lost-alike (delete caller id) s ok by refl _ _ (λ z. marks-number id (own-tenant tenant caller id (delete-own L caller id z) s) 0 0 refl)
  seen-lost (lookup caller id) s ok by = (lookup-plain S.table S.medium caller id).invalidated
  seen-lost (batch caller ids) s ok by = refl

  -- a batch: each of its ids is one of the tenant's, or is refused alike in the view
  own-opens : (caller id k : ℕ) → eqb caller tenant ≡ true → opens_l L caller id k ≡ opens_l K caller id k
  unfolding opens_l trimmed
  own-opens caller id k s = settle-both (lookup_rows_l L caller id) (lookup_rows_l K caller id) (lookup-view tenant S L A caller id) (◌≡◌ {A = Bool}) _ _ false false
      (λ z. ap (λ (o : Option Version). leb (lowest_l o) k && reads_l L id k) (sym (last-own tenant id (own-tenant tenant caller id (lookup-own L caller id z) s) L.events)))
      refl

  own-lookup : (caller id : ℕ) → eqb caller tenant ≡ true → (lookup_l L caller id).reply ≡ (lookup_l K caller id).reply
  unfolding sees supposed enter rows_of done_of viewed shown_l enter_v accepts enter_by settle trimmed
  own-lookup caller id s = ap (λ (e : Entered). e.reply) (seen-enters tenant S L A (lookup caller id) s true (λ q. absurd (true-not-false q refl)))

  seen-batch : (caller : ℕ) (ids : List ℕ) → eqb caller tenant ≡ true → batch_l L caller ids ≡ batch_l K caller ids
  unfolding batch_l opened_at_l trimmed
  seen-batch caller ids s = batch-cong ids (batch_rows_l ids) (batch_rows_l ids) refl (opened_at_l L caller ids) (opened_at_l K caller ids) L.servers L.servers refl
      (λ i k l. own-opens caller (nth ids i) k s) _ _ _ _ _ _
      (λ i.
      let e = own-lookup caller (nth ids i) s in
      (ap (λ (r : Compared). r.refusal) e, ap (λ (r : Compared). r.value) e, ap (λ (r : Compared). r.opened) e))

  -- what is heard of a call
  seen-reply : (c : Call) → sees tenant c ≡ true → (ok : Bool) → Verdict S c ok → shown c (reply S c) ≡ reply_v K c ok
  unfolding reply_v whole compared viewed shown shown_l
  seen-reply c s ok by = ap₂ whole (ap (shown_l c) (step S L A c).alike ∙ ap (λ (e : Entered). e.reply) (seen-enters tenant S L A c s ok by)) (seen-lost c s ok by)

  pub seen-heard : (c : Call) → sees tenant c ≡ true → (ok : Bool) → Verdict S c ok → shown_by S c ≡ shown_v K c ok
  unfolding sees shown_by shown_v
  seen-heard (add_server weight) s ok by = ap to_call (seen-reply (add_server weight) s ok by)
  seen-heard (reweight server weight) s ok by = ap to_call (seen-reply (reweight server weight) s ok by)
  seen-heard (write caller id value) s ok by = ap to_call (seen-reply (write caller id value) s ok by)
  seen-heard (delete caller id) s ok by = ap to_call (seen-reply (delete caller id) s ok by)
  seen-heard (lookup caller id) s ok by = ap to_call (seen-reply (lookup caller id) s ok by)
  seen-heard (batch caller ids) s ok by = ap to_batch (same-batch A caller ids ∙ seen-batch caller ids s)
