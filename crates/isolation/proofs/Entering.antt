-- One call in the tenant's view: one that the tenant sees enters what the ledger enters, and one that it does not see enters nothing.
-- Assumes nothing.
use Prim.Native.Nat.{ℕ}
use mathlib.Core.Path.{◌≡◌, refl, sym, ap, ◌∙◌}
use mathlib.Core.Bool.{Bool, true, false, not, ◌||◌}
use Rattle.std.specs.Prelude.{Option, None, Some}
use native.Mathlib.Omega.{arith}
use lib.Dec.{eqb}
use borrow.Author.Tests.{eqb-true, eq-eqb, le-ltb}
use Rattle.lists.proofs.Tests.{by_bool, true-not-false}
use Rattle.tenants.specs.Tenant.{tenant_of, out_of_range, of_another}
use Rattle.tenants.proofs.Tenants.{tenant-is}
use Rattle.replies.specs.Refusal.{first_of, settle}
use Rattle.replies.proofs.Refusals.{passed, passed-both, first-same, more_same}
use Rattle.history.specs.Call.{Call, add_server, reweight, write, delete, lookup, batch, Compared, compared}
use Rattle.history.specs.Machine.{State}
use Rattle.history.specs.Ledger.{Ledger, Version, Entered, told, enter_by, words_for, with_server_l, with_weight_l, short_l, asked_rows_l, with_event, target_l, last_write_of, is_written, write_rows_l, delete_rows_l, lookup_rows_l, opened_from, last_write_reply, rows_of, done_of, enter}
use Rattle.history.proofs.Entering.{entered}
use Rattle.history.proofs.Agree.{ledger-numbered, same_address}
use Rattle.history.proofs.Run.{Agrees, step}
use Rattle.isolation.specs.Seen.{sees, supposed, verdict}
use Rattle.isolation.proofs.View.{events_of, trimmed, view, shown_l, accepts, enter_v, last-own}

-- `ok` is the call's verdict, where that is supposed
abbrev pub Verdict : State → Call → Bool → Type 0
Verdict S c ok = supposed c ≡ true → ok ≡ verdict S c

-- a call that passes row 11 has an id of its caller's own
asked-own : (L : Ledger) (caller id : ℕ) (outside : Bool) → first_of (asked_rows_l L caller id outside) ≡ 0 → tenant_of id ≡ caller
unfolding asked_rows_l
asked-own L caller id outside z = tenant-is caller id (passed 10 (of_another caller id) _ (passed 1 (outside || out_of_range caller id) _ z).1).0

module _ (L : Ledger) (caller id : ℕ) where
  pub write-own : (value : ℕ) → first_of (write_rows_l L caller id value) ≡ 0 → tenant_of id ≡ caller
  unfolding write_rows_l
  write-own value z = asked-own L caller id _ (passed-both _ _ (ledger-numbered L caller id _) z).0

  pub delete-own : first_of (delete_rows_l L caller id) ≡ 0 → tenant_of id ≡ caller
  unfolding delete_rows_l
  delete-own z = asked-own L caller id _ (passed-both _ _ (ledger-numbered L caller id _) z).0

  pub lookup-own : first_of (lookup_rows_l L caller id) ≡ 0 → tenant_of id ≡ caller
  unfolding lookup_rows_l
  lookup-own z = asked-own L caller id false z

-- where the caller is the tenant, an id of the caller's is the tenant's, and where it is another, it is not
module _ (tenant caller id : ℕ) (mine : tenant_of id ≡ caller) where
  pub own-tenant : eqb caller tenant ≡ true → tenant_of id ≡ tenant
  own-tenant s = mine ∙ eqb-true caller tenant s

  other-tenant : eqb caller tenant ≡ false → eqb (tenant_of id) tenant ≡ false
  other-tenant s = ap (λ (a : ℕ). eqb a tenant) mine ∙ s

module _ (tenant : ℕ) (L : Ledger) where
  -- what a call enters, in the tenant's view
  unfoldable pub viewed : Call → Entered → Entered
  viewed c e = record { reply = shown_l c e.reply; ledger = view tenant e.ledger }

  reply-view : (id : ℕ) (o : Option Version) → last_write_reply L id o ≡ last_write_reply (view tenant L) id o
  unfolding last_write_reply opened_from trimmed
  reply-view id None = refl
  reply-view id (Some x) = refl

  -- an accepted call that is seen enters the same in the view
  seen_done : (c : Call) → sees tenant c ≡ true → first_of (rows_of L c) ≡ 0
      → let done = done_of (view tenant L) c in
      viewed c (done_of L c) ≡ record { reply = shown_l c done.reply; ledger = trimmed done.ledger done.ledger.events }
  unfolding sees viewed rows_of done_of trimmed with_server_l with_weight_l with_event target_l events_of
  seen_done (add_server weight) s z = refl
  seen_done (reweight server weight) s z = refl
  seen_done (write caller id value) s z = rw (eq-eqb (tenant_of id) tenant (own-tenant tenant caller id (write-own L caller id value z) s))
  seen_done (delete caller id) s z = rw (eq-eqb (tenant_of id) tenant (own-tenant tenant caller id (delete-own L caller id z) s))
  seen_done (lookup caller id) s z =
      ap (λ (r : Compared). record { reply = shown_l (lookup caller id) r; ledger = view tenant L })
      (reply-view id (last_write_of L.events id)
      ∙ ap (last_write_reply (view tenant L) id) (sym (last-own tenant id (own-tenant tenant caller id (lookup-own L caller id z) s) L.events)))
  seen_done (batch caller ids) s z = refl

  -- one that is not seen enters nothing there
  unseen-done : (c : Call) → sees tenant c ≡ false → first_of (rows_of L c) ≡ 0 → view tenant (done_of L c).ledger ≡ view tenant L
  unfolding sees rows_of done_of trimmed with_event events_of
  unseen-done (add_server weight) s z = absurd (true-not-false refl s)
  unseen-done (reweight server weight) s z = absurd (true-not-false refl s)
  unseen-done (write caller id value) s z = rw (other-tenant tenant caller id (write-own L caller id value z) s)
  unseen-done (delete caller id) s z = rw (other-tenant tenant caller id (delete-own L caller id z) s)
  unseen-done (lookup caller id) s z = refl
  unseen-done (batch caller ids) s z = refl

  pub unseen : (c : Call) → sees tenant c ≡ false → view tenant (enter L c).ledger ≡ view tenant L
  unfolding enter
  unseen c s = entered (λ e. view tenant e.ledger ≡ view tenant L) L (rows_of L c) (done_of L c) (unseen-done c s) (λ f. refl)

module _ (tenant : ℕ) (S : State) (L : Ledger) (A : Agrees S L) where
  abbrev K : Ledger
  K = view tenant L

  -- the medium is never too short
  long-enough : short_l L ≡ false
  unfolding short_l
  long-enough = le-ltb L.words (words_for L L.servers) (omega (arith, A.words, A.holds.long, same_address A S.table.count L.servers A.count))

  long-view : short_l K ≡ false
  unfolding short_l trimmed
  long-view = le-ltb (words_for L L.servers) (words_for L L.servers) (omega arith)

  -- a delete, a lookup or a batch has the same refusal on the view
  asked-view : (caller id : ℕ) (outside : Bool) → first_of (asked_rows_l L caller id outside) ≡ first_of (asked_rows_l K caller id outside)
  unfolding asked_rows_l trimmed
  asked-view caller id outside = rw (long-enough, long-view)

  pub lookup-view : (caller id : ℕ) → first_of (lookup_rows_l L caller id) ≡ first_of (lookup_rows_l K caller id)
  unfolding lookup_rows_l
  lookup-view caller id = asked-view caller id false

  rows-view : (c : Call) → sees tenant c ≡ true → supposed c ≡ false → first_of (rows_of L c) ≡ first_of (rows_of K c)
  unfolding sees supposed rows_of delete_rows_l trimmed
  rows-view (add_server weight) s q = absurd (true-not-false refl q)
  rows-view (reweight server weight) s q = absurd (true-not-false refl q)
  rows-view (write caller id value) s q = absurd (true-not-false refl q)
  rows-view (delete caller id) s q =
      more_same _ _ _ _ (ledger-numbered L caller id false) (ledger-numbered K caller id false) (asked-view caller id false) (λ z.
      first-same 8 _ _ _ _ (ap (λ (o : Option Version). not (is_written o)) (sym (last-own tenant id (own-tenant tenant caller id (asked-own L caller id false z) s) L.events))) (λ _. refl))
  rows-view (lookup caller id) s q = lookup-view caller id
  rows-view (batch caller ids) s q = refl

  -- a call whose accepted reply is no refusal is accepted by its rows
  pub number : (c : Call) → (done_of L c).reply.refusal ≡ 0 → verdict S c ≡ eqb (first_of (rows_of L c)) 0
  unfolding verdict enter compared
  number c z = ap (λ (n : ℕ). eqb n 0)
      (ap (λ (r : Compared). r.refusal) (step S L A c).alike
      ∙ entered (λ e. e.reply.refusal ≡ first_of (rows_of L c)) L (rows_of L c) (done_of L c) (λ y. z ∙ sym y) (λ f. refl))

  supposed-done : (c : Call) → supposed c ≡ true → (done_of L c).reply.refusal ≡ 0
  unfolding supposed done_of
  supposed-done (add_server weight) q = refl
  supposed-done (reweight server weight) q = refl
  supposed-done (write caller id value) q = refl
  supposed-done (delete caller id) q = refl
  supposed-done (lookup caller id) q = absurd (true-not-false q refl)
  supposed-done (batch caller ids) q = refl

  -- a call that is seen, with its verdict where it is supposed
  module _ (c : Call) (s : sees tenant c ≡ true) (ok : Bool) (by : Verdict S c ok) where
    pub accepts-view : eqb (first_of (rows_of L c)) 0 ≡ accepts K c ok
    unfolding accepts
    accepts-view = by_bool (supposed c)
        (λ q. rw q (sym (by q ∙ number c (supposed-done c q))))
        (λ q. rw q (ap (λ (n : ℕ). eqb n 0) (rows-view c s q)))

    refused-view : shown_l c (told (first_of (rows_of L c)) 0 0 0) ≡ shown_l c (told (first_of (rows_of K c)) 0 0 0)
    unfolding shown_l
    refused-view = by_bool (supposed c) (λ q. rw q) (λ q. rw (q, rows-view c s q))

    pub seen-enters : viewed tenant L c (enter L c) ≡ enter_v K c ok
    unfolding viewed enter enter_by settle enter_v
    seen-enters = rw (← accepts-view) (by_bool (eqb (first_of (rows_of L c)) 0)
        (λ d. rw d (seen_done tenant L c s (eqb-true (first_of (rows_of L c)) 0 d)))
        (λ d. rw d (ap (λ (r : Compared). record { reply = r; ledger = view tenant L }) refused-view)))
