-- The live rule: an accepted write's entry is live exactly when no later event takes it, told from the calls alone.
-- Assumes nothing.
use Prim.Native.Nat.{ℕ, ◌<◌}
use mathlib.Core.Path.{◌≡◌, refl, sym, ◌∙◌, subst}
use mathlib.Core.Bool.{Bool, true, false, not, ◌&&◌, ◌||◌, and_comm}
use mathlib.Core.List.{List, [], ◌∷◌, ◌++◌}
use native.Mathlib.Omega.{arith}
use lib.Dec.{leb, ltb, eqb}
use borrow.Author.Tests.{lt-ltb, le-ltb, leb-true, leb-false}
use Rattle.limits.specs.Limits.{content_range}
use Rattle.lists.proofs.Tests.{by_bool, true-not-false}
use Rattle.medium.specs.Entry.{bears, live}
use Rattle.medium.specs.Burn.{burn_all}
use Rattle.table.specs.declared.Table.{Table}
use Rattle.table.specs.Parts.{used_of}
use Rattle.replies.specs.Refusal.{Row, first_of, settle}
use Rattle.replies.proofs.Refusals.{settle-yes, settle-no}
use Rattle.deletion.specs.Deletion.{delete_rows, delete_burns, delete_medium}
use Rattle.planning.specs.WriteRows.{target, write_rows}
use Rattle.writing.specs.Writing.{write_burns, write_medium}
use Rattle.server_rows.specs.ServerRows.{start_rows}
use Rattle.history.specs.Call.{Call, add_server, reweight, write, delete, lookup, batch}
use Rattle.history.specs.Machine.{State, next, turned, after_turns, after, begin}
use Rattle.history.specs.Ledger.{Event, wrote, removed, spent, Ledger, Entered, enter_by, fresh_ledger, used_by, add_server_rows_l, with_server_l, reweight_rows_l, with_weight_l, with_event, write_rows_l, delete_rows_l, lookup_rows_l, batch_rows_l, rows_of, done_of, enter, noted, ledger_by, ledger_after, reads_l}
use Rattle.history.specs.LiveRule.{stays_live, LiveRule}
use Rattle.history.proofs.Events.{EachWrite, each_none, each-wrote, each_on, removed-no-write, used-write}
use Rattle.history.proofs.Entering.{entered}
use Rattle.history.proofs.Holds.{Holds, write-there}
use Rattle.history.proofs.DeletedMedium.{burns_of, borne}
use Rattle.history.proofs.WrittenMedium.{Accepted}
use Rattle.history.proofs.WriteBurns.{burns_to, new-borne, old-borne}
use Rattle.history.proofs.Agree.{Agree, same_target}
use Rattle.history.proofs.WriteStep.{same_rows as same_write, accepted, write-burns}
use Rattle.history.proofs.DeleteStep.{same_rows as same-delete, accepted-id, delete-burns}
use Rattle.history.proofs.Run.{Agrees, begin-agrees, step, run-calls}

-- no entry was spent in vain
unfoldable pub unspent : List Event → Bool
unspent [] = true
unspent (wrote id value server ∷ older) = unspent older
unspent (removed id ∷ older) = unspent older
unspent (spent server ∷ older) = false

pub not-spent : (newer older : List Event) (server : ℕ) → unspent (newer ++ (spent server ∷ older)) ≡ true → ⊥
unfolding unspent
not-spent [] older server e = true-not-false e refl
not-spent (wrote id value k ∷ newer) older server e = not-spent newer older server e
not-spent (removed id ∷ newer) older server e = not-spent newer older server e
not-spent (spent k ∷ newer) older server e = true-not-false e refl

-- each write's entry bears its id exactly when the later events leave it so; and there are no other entries
pub record Ruled (capacity : ℕ) (events : List Event) (m : List ℕ) : Type 0 where
  pub each : EachWrite events (λ newer older id value server. bears capacity m id server (used_by older server) ≡ stays_live id server newer)
  pub none : unspent events ≡ true

-- one event more
not_taken : (id a server k : ℕ) → not (eqb id a && leb server k) ≡ not (eqb id a) || ltb k server
not_taken id a server k = by_bool (eqb id a)
    (λ d. rw d (by_bool (leb server k)
    (λ c. rw (c, le-ltb k server (leb-true server k c)))
    (λ c. rw (c, lt-ltb k server (leb-false server k c)))))
    (λ d. rw d)

module _ {capacity count : ℕ} {rule : ℕ → ℕ → Bool} {events : List Event} {m : List ℕ} (H : Holds capacity count rule events m) (R : Ruled capacity events m) where
  write-ruled : {id value server : ℕ} → Accepted capacity count rule events id value server
      → Ruled capacity (wrote id value server ∷ events) (burn_all m (burns_to capacity count rule events m id value server))
  unfolding stays_live unspent
  write-ruled {id} {value} {server} W = record {
    each = each-wrote _ (new-borne H W) (λ newer older a v k e.
        old-borne H W a k (used_by older k) (write-there H newer older a v k e) (used-write events newer older a v k e)
        ∙ rw (R.each newer older a v k e, not_taken id a server k) (and_comm (stays_live a k newer) (not (eqb id a) || ltb k server)));
    none = R.none;
  }

  delete-ruled : (id : ℕ) → id < content_range → Ruled capacity (removed id ∷ events) (burn_all m (burns_of capacity count rule events m id))
  unfolding stays_live unspent
  delete-ruled id small = record {
    each = each_on _ (removed-no-write id) (λ newer older a v k e.
        borne H id small a k (used_by older k) (write-there H newer older a v k e) (omega (arith, H.fits k, used-write events newer older a v k e))
        ∙ rw (R.each newer older a v k e) (and_comm (stays_live a k newer) (not (eqb id a))));
    none = R.none;
  }

-- the same of a ledger
abbrev pub Rules : Ledger → List ℕ → Type 0
Rules L m = Ruled L.capacity L.events m

-- a call that may burn, and one that leaves the events and the medium
module _ (L : Ledger) (m : List ℕ) (R : Rules L m) where
  settled-rules : (rows rows_l : List Row) → first_of rows ≡ first_of rows_l → (done : Entered) (N : List ℕ)
      → (first_of rows ≡ 0 → Rules done.ledger N)
      → Rules (enter_by L rows_l done).ledger (settle rows N m)
  settled-rules rows rows_l same done N accepts = entered (λ e. Rules e.ledger (settle rows N m)) L rows_l done
      (λ z. rw (settle-yes rows N m (same ∙ z)) (accepts (same ∙ z)))
      (λ f. rw (settle-no rows N m (λ z. f (sym same ∙ z))) R)

  same-rules : (rows : List Row) (done : Entered) → Rules done.ledger m → Rules (enter_by L rows done).ledger m
  same-rules rows done Q = entered (λ e. Rules e.ledger m) L rows done (λ z. Q) (λ f. R)

module _ {t : Table} {m : List ℕ} {L : Ledger} (A : Agree t m L) (R : Rules L m) where
  pub table-ruled : Ruled t.capacity L.events m
  table-ruled = subst (λ (c : ℕ). Ruled c L.events m) (sym A.capacity) R

  write-rules : (tenant id value : ℕ) → Rules (enter L (write tenant id value)).ledger (write_medium t m tenant id value)
  unfolding enter rows_of done_of with_event write_medium
  write-rules tenant id value = settled-rules L m R (write_rows t m tenant id value) (write_rows_l L tenant id value) (same_write A tenant id value) _ (burn_all m (write_burns t m id value))
      (λ z.
      let W = accepted A tenant id value z in
      let server = target t id in
      rw (write-burns A tenant id value W.there, ← (same_target A id))
      (subst (λ (c : ℕ). Ruled c (wrote id value server ∷ L.events) (burn_all m (burns_to t.capacity t.count (reads_l L) L.events m id value server))) A.capacity
      (write-ruled A.holds table-ruled W)))

  delete-rules : (tenant id : ℕ) → Rules (enter L (delete tenant id)).ledger (delete_medium t m tenant id)
  unfolding enter rows_of done_of with_event delete_medium
  delete-rules tenant id = settled-rules L m R (delete_rows t m tenant id) (delete_rows_l L tenant id) (same-delete A id tenant) _ (burn_all m (delete_burns t m id))
      (λ z. rw (delete-burns A id)
      (subst (λ (c : ℕ). Ruled c (removed id ∷ L.events) (burn_all m (burns_of t.capacity t.count (reads_l L) L.events m id))) A.capacity
      (delete-ruled A.holds table-ruled id (accepted-id A id tenant z))))

pub next-rules : (S : State) (L : Ledger) → Agrees S L → Rules L S.medium → (c : Call) → Rules (enter L c).ledger (next S c).medium
unfolding enter rows_of done_of next with_server_l with_weight_l
next-rules S L A R (add_server weight) = same-rules L S.medium R (add_server_rows_l L weight) _ R
next-rules S L A R (reweight server weight) = same-rules L S.medium R (reweight_rows_l L server weight) _ R
next-rules S L A R (write tenant id value) = write-rules A R tenant id value
next-rules S L A R (delete tenant id) = delete-rules A R tenant id
next-rules S L A R (lookup tenant id) = same-rules L S.medium R (lookup_rows_l L tenant id) _ R
next-rules S L A R (batch tenant ids) = same-rules L S.medium R (batch_rows_l ids) _ R

run-rules : (calls : List Call) (S : State) (L : Ledger) → Agrees S L → Rules L S.medium → Rules (ledger_after L calls) (after S calls).medium
unfolding after_turns turned ledger_by noted
run-rules [] S L A R = R
run-rules (c ∷ calls) S L A R = run-rules calls (next S c) (enter L c).ledger (step S L A c).agrees (next-rules S L A R c)

pub begin-rules : (capacity salt n : ℕ) → Rules (fresh_ledger capacity salt n) (begin capacity salt n).medium
unfolding fresh_ledger unspent
begin-rules capacity salt n = record { each = each_none _; none = refl }

pub live-rule : (capacity salt n : ℕ) → first_of (start_rows capacity salt) ≡ 0 → (calls : List Call) → LiveRule capacity salt n calls
unfolding live
live-rule capacity salt n z calls =
    let S = after (begin capacity salt n) calls in
    let L = ledger_after (fresh_ledger capacity salt n) calls in
    let B = begin-agrees capacity salt n z in
    let A : Agrees (after (begin capacity salt n) calls) (ledger_after (fresh_ledger capacity salt n) calls) = (run-calls calls (begin capacity salt n) (fresh_ledger capacity salt n) B).agrees in
    record {
      rule = λ newer older id value server e.
          let there = write-there A.holds newer older id value server e in
          rw (lt-ltb (used_by older server) (used_of S.table server) (omega (arith, A.used server there, used-write L.events newer older id value server e)))
          ((table-ruled A (run-rules calls (begin capacity salt n) (fresh_ledger capacity salt n) B (begin-rules capacity salt n))).each newer older id value server e);
    }
