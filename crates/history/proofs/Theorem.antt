-- The third demand, proved.
-- Assumes nothing.
use Prim.Native.Nat.{ℕ, ◌+◌, ◌<◌}
use mathlib.Core.Bool.{false}
use mathlib.Core.Path.{◌≡◌, refl, sym, ap, ◌∙◌}
use mathlib.Core.Logic.{◌↔◌, ◌≢◌, ◌⊎◌, inl, inr}
use mathlib.Core.List.{List, ◌∷◌, ◌++◌}
use Rattle.std.specs.Prelude.{Option, None, Some}
use native.Mathlib.Omega.{arith}
use lib.ListN.{length}
use lib.Dec.{eqb}
use borrow.Author.Tests.{eqb-false, eq-eqb, ne_eqb}
use Rattle.limits.specs.Limits.{content_range}
use Rattle.lists.specs.Below.{nth}
use Rattle.lists.proofs.Tests.{by_bool}
use Rattle.tenants.specs.Tenant.{tenant_of}
use Rattle.words.specs.Word.{tag_of}
use Rattle.medium.specs.Entry.{entry_words, entry_at, value_at}
use Rattle.medium.proofs.Places.{entry-apart}
use Rattle.table.specs.declared.Table.{Table}
use Rattle.replies.specs.Refusal.{first_of}
use Rattle.replies.specs.declared.Reply.{Reply}
use Rattle.replies.specs.Reply.{accepted, reply_by}
use Rattle.replies.proofs.Refusals.{settle-either}
use Rattle.checks.proofs.Passed.{asked-tests}
use Rattle.search.specs.declared.Place.{Place}
use Rattle.search.specs.Search.{search_for}
use Rattle.lookup.specs.Lookup.{lookup_rows, met_reply, lookup_reply}
use Rattle.deletion.proofs.Done.{delete-ready}
use Rattle.recovery.specs.Recovery.{recover_reply}
use Rattle.server_rows.specs.ServerRows.{start_rows}
use Rattle.history.specs.Beam.{Beam}
use Rattle.history.specs.Call.{lookup, Turn, crashed_write, crashed_delete, Compared, compared}
use Rattle.history.specs.Machine.{State, recovered, turned, begin}
use Rattle.history.specs.Hearing.{hear}
use Rattle.history.specs.Ledger.{Event, wrote, removed, spent, Ledger, Version, told, fresh_ledger, used_by, last_write_of, with_event, target_l, short_l, asked_rows_l, delete_rows_l, lookup_rows_l, opened_from, last_write_reply, rows_of, done_of, enter, noted}
use Rattle.history.specs.Demand3.{OnMedium, Demand3, looked_up_in, state_then, heard_then, ledger_then}
use Rattle.history.proofs.Unaltered.{after-once, after-append}
use Rattle.history.proofs.Events.{used-write, own-entry, last_written, last-came}
use Rattle.history.proofs.Holds.{write-there}
use Rattle.history.proofs.Entering.{entered, crashed-write, crashed-delete}
use Rattle.history.proofs.LookupStep.{last-write-words, lookup-step, looked}
use Rattle.history.proofs.DeleteStep.{accepted-id, same_rows}
use Rattle.history.proofs.CrashSteps.{recover-idle, crash-write-recovers, crash-delete-recovers}
use Rattle.history.proofs.Batches.{same-batch}
use Rattle.history.proofs.Run.{Agrees, begin-agrees, turn, run}
use Rattle.history.proofs.Never.{never}
use Rattle.history.proofs.Counting.{taken, live-writes}

-- of a state and a ledger that agree
module _ (S : State) (L : Ledger) (A : Agrees S L) where
  abbrev reply : ℕ → Reply
  reply id = lookup_reply S.table S.medium (tenant_of id) id

  on_medium : (newer older : List Event) (id value server : ℕ) → L.events ≡ newer ++ (wrote id value server ∷ older) → OnMedium S L id value server (used_by older server)
  on_medium newer older id value server e =
      let t = S.table in
      let H = A.holds in
      let u = used-write L.events newer older id value server e in
      let w = H.written newer older id value server e in
      record {
        there = omega (arith, A.count, write-there H newer older id value server e);
        inside = omega (arith, A.capacity, H.fits server);
        id_there = rw (← A.capacity) w.id_there;
        value_there = rw (← A.capacity) w.value_there;
      }

  -- the words of two entries that are inside differ, and no two writes have the same entry of a server
  own : (newer older newer' older' : List Event) (id value server id' value' server' : ℕ)
      → L.events ≡ newer ++ (wrote id value server ∷ older) → L.events ≡ newer' ++ (wrote id' value' server' ∷ older')
      → (a b : ℕ) → a < entry_words → b < entry_words
      → entry_at L.capacity server (used_by older server) + a ≡ entry_at L.capacity server' (used_by older' server') + b
      → length older ≡ length older'
  own newer older newer' older' id value server id' value' server' e e' a b l l' h =
      let inside = (on_medium newer older id value server e).inside in
      let inside' = (on_medium newer' older' id' value' server' e').inside in
      let same = entry-apart L.capacity server (used_by older server) a server' (used_by older' server') b inside inside' l l' h in
      own-entry newer newer' older older' id value id' value' server (sym e ∙ rw (← same.0) at e') (same.1 ∙ ap (used_by older') (sym same.0))

  finds : (id : ℕ) (x : Version) → last_write_of L.events id ≡ Some x → ((reply id).refusal ≡ 0) × ((reply id).value ≡ x.value)
  unfolding compared last_write_reply
  finds id x e =
      let w = last-came L.events id x e in
      let s = on_medium w.newer w.older id x.value x.server w.split in
      let r = looked A id (last-write-words A id x e).id_small (omega (arith, A.count, s.there)) ∙ ap (last_write_reply L id) e in
      (ap (λ (c : Compared). c.refusal) r, ap (λ (c : Compared). c.value) r)

  absent : (id : ℕ) → id < content_range → 0 < L.servers → ((reply id).refusal ≡ 8) ↔ (last_write_of L.events id ≡ None)
  unfolding compared last_write_reply
  absent id n l = (
    λ r. go r (last_write_of L.events id) refl,
    λ e. ap (λ (c : Compared). c.refusal) (looked A id n (omega (arith, A.count)) ∙ ap (last_write_reply L id) e),
  )
    where
      go : (reply id).refusal ≡ 8 → (o : Option Version) → last_write_of L.events id ≡ o → o ≡ None
      go r None e = refl
      go r (Some x) e = absurd (omega (arith, (finds id x e).0))

-- what a lookup replies, whole, by what is compared of it
met-none-invalidated : (capacity : ℕ) (m : List ℕ) (opened : ℕ) (o : Option Place) → (met_reply capacity m opened o).invalidated ≡ 0
unfolding met_reply
met-none-invalidated capacity m opened None = refl
met-none-invalidated capacity m opened (Some p) = by_bool (eqb (tag_of (nth m (value_at capacity p.server p.entry))) 1) (λ d. rw d) (λ d. rw d)

none-invalidated : (t : Table) (m : List ℕ) (tenant id : ℕ) → (lookup_reply t m tenant id).invalidated ≡ 0
unfolding lookup_reply reply_by
none-invalidated t m tenant id = settle-either (lookup_rows t m tenant id) _ _ (λ (r : Reply). r.invalidated ≡ 0) (λ _. met-none-invalidated t.capacity m _ (search_for t m id).met) refl

whole-reply : (r s : Reply) → compared r ≡ compared s → r.invalidated ≡ s.invalidated → r ≡ s
unfolding compared
whole-reply r s e f = λ i. record { refusal = (e i).refusal; server = (e i).server; value = (e i).value; opened = (e i).opened; invalidated = f i }

-- lookups in a ledger with one event more, which is of another id
module _ (L : Ledger) (x : Event) (tenant a : ℕ) where
  event-reply : (o : Option Version) → last_write_reply (with_event L x) a o ≡ last_write_reply L a o
  unfolding last_write_reply with_event opened_from
  event-reply None = refl
  event-reply (Some y) = refl

  same-look : last_write_of (x ∷ L.events) a ≡ last_write_of L.events a → (enter (with_event L x) (lookup tenant a)).reply ≡ (enter L (lookup tenant a)).reply
  unfolding enter rows_of done_of lookup_rows_l asked_rows_l short_l with_event
  same-look q = entered (λ e. e.reply ≡ (enter L (lookup tenant a)).reply) (with_event L x) (lookup_rows_l L tenant a) _
      (λ z. entered (λ e. last_write_reply (with_event L x) a (last_write_of (x ∷ L.events) a) ≡ e.reply) L (lookup_rows_l L tenant a) _
      (λ y. ap (last_write_reply (with_event L x) a) q ∙ event-reply (last_write_of L.events a))
      (λ f. absurd (f z)))
      (λ f. entered (λ e. told (first_of (lookup_rows_l L tenant a)) 0 0 0 ≡ e.reply) L (lookup_rows_l L tenant a) _ (λ y. absurd (f y)) (λ g. refl))

-- an event of another id, or of none, leaves an id's last write
wrote-aside : (id value k a : ℕ) (older : List Event) → a ≢ id → last_write_of (wrote id value k ∷ older) a ≡ last_write_of older a
unfolding last_write_of
wrote-aside id value k a older f = rw (ne_eqb id a (λ e. f (sym e)))

removed-aside : (id a : ℕ) (older : List Event) → a ≢ id → last_write_of (removed id ∷ older) a ≡ last_write_of older a
unfolding last_write_of
removed-aside id a older f = rw (ne_eqb id a (λ e. f (sym e)))

spent-aside : (k a : ℕ) (older : List Event) → last_write_of (spent k ∷ older) a ≡ last_write_of older a
unfolding last_write_of
spent-aside k a older = refl

wrote-last : (id value k : ℕ) (older : List Event) → last_write_of (wrote id value k ∷ older) id ≡ Some (record { value = value; server = k })
unfolding last_write_of
wrote-last id value k older = rw (eq-eqb id id refl)

removed-last : (id : ℕ) (older : List Event) → last_write_of (removed id ∷ older) id ≡ None
unfolding last_write_of
removed-last id older = rw (eq-eqb id id refl)

-- one crash more
module _ (S : State) (L : Ledger) (A : Agrees S L) where
  -- the same answer of two states whose ledgers give the same
  same_answer : (R : State) (M : Ledger) → Agrees R M → (a : ℕ) → (enter M (lookup (tenant_of a) a)).reply ≡ (enter L (lookup (tenant_of a) a)).reply → looked_up_in R a ≡ looked_up_in S a
  same_answer R M B a e = whole-reply (looked_up_in R a) (looked_up_in S a)
      ((lookup-step B a (tenant_of a)).alike ∙ e ∙ sym (lookup-step A a (tenant_of a)).alike)
      (none-invalidated R.table R.medium (tenant_of a) a ∙ sym (none-invalidated S.table S.medium (tenant_of a) a))

  -- the last write after the event
  written : (id value : ℕ) → last_write_of (with_event L (wrote id value (target_l L id))).events id ≡ Some (record { value = value; server = target_l L id })
  unfolding with_event
  written id value = wrote-last id value (target_l L id) L.events

  gone : (id : ℕ) → last_write_of (with_event L (removed id)).events id ≡ None
  unfolding with_event
  gone id = removed-last id L.events

  -- an accepted delete has an id in range, and a server is there
  in-range : (tenant id : ℕ) → first_of (delete_rows_l L tenant id) ≡ 0 → id < content_range
  in-range tenant id z = accepted-id A id tenant (same_rows A id tenant ∙ z)

  some-server : (tenant id : ℕ) → first_of (delete_rows_l L tenant id) ≡ 0 → 0 < (with_event L (removed id)).servers
  unfolding with_event
  some-server tenant id z =
      let y = (asked-tests S.table S.medium tenant id false (delete-ready S.table S.medium tenant id (same_rows A id tenant ∙ z))).none in
      omega (arith, A.count, eqb-false S.table.count 0 y)

  write-shows : (tenant id value n : ℕ) (beam : Beam)
      → let R = turned S (crashed_write tenant id value n beam) in
      (looked_up_in R id ≡ looked_up_in S id) ⊎ (((looked_up_in R id).refusal ≡ 0) × ((looked_up_in R id).value ≡ value))
  unfolding hear noted
  write-shows tenant id value n beam =
      let R = turned S (crashed_write tenant id value n beam) in
      crashed-write
      (λ M. Agrees R M → (looked_up_in R id ≡ looked_up_in S id) ⊎ (((looked_up_in R id).refusal ≡ 0) × ((looked_up_in R id).value ≡ value)))
      L tenant id value _ _
      (λ B. inl (same_answer R L B id refl))
      (λ z B. inl (same_answer R (with_event L (spent (target_l L id))) B id (same-look L (spent (target_l L id)) (tenant_of id) id (spent-aside (target_l L id) id L.events))))
      (λ z B. inr (finds R (with_event L (wrote id value (target_l L id))) B id (record { value = value; server = target_l L id }) (written id value)))
      (turn S L A (crashed_write tenant id value n beam))

  delete-shows : (tenant id n : ℕ) (beam : Beam)
      → let R = turned S (crashed_delete tenant id n beam) in
      (looked_up_in R id ≡ looked_up_in S id) ⊎ ((looked_up_in R id).refusal ≡ 8)
  unfolding hear noted
  delete-shows tenant id n beam =
      let R = turned S (crashed_delete tenant id n beam) in
      crashed-delete (λ M. Agrees R M → (looked_up_in R id ≡ looked_up_in S id) ⊎ ((looked_up_in R id).refusal ≡ 8)) L tenant id _
      (λ B. inl (same_answer R L B id refl))
      (λ z B. inr ((absent R (with_event L (removed id)) B id (in-range tenant id z) (some-server tenant id z)).1 (gone id)))
      (turn S L A (crashed_delete tenant id n beam))

  write-others : (tenant id value n : ℕ) (beam : Beam) (a : ℕ) → a ≢ id → looked_up_in (turned S (crashed_write tenant id value n beam)) a ≡ looked_up_in S a
  unfolding hear noted
  write-others tenant id value n beam a f =
      let R = turned S (crashed_write tenant id value n beam) in
      crashed-write (λ M. Agrees R M → looked_up_in R a ≡ looked_up_in S a) L tenant id value _ _
      (λ B. same_answer R L B a refl)
      (λ z B. same_answer R (with_event L (spent (target_l L id))) B a (same-look L (spent (target_l L id)) (tenant_of a) a (spent-aside (target_l L id) a L.events)))
      (λ z B. same_answer R (with_event L (wrote id value (target_l L id))) B a (same-look L (wrote id value (target_l L id)) (tenant_of a) a (wrote-aside id value (target_l L id) a L.events f)))
      (turn S L A (crashed_write tenant id value n beam))

  delete-others : (tenant id n : ℕ) (beam : Beam) (a : ℕ) → a ≢ id → looked_up_in (turned S (crashed_delete tenant id n beam)) a ≡ looked_up_in S a
  unfolding hear noted
  delete-others tenant id n beam a f =
      let R = turned S (crashed_delete tenant id n beam) in
      crashed-delete (λ M. Agrees R M → looked_up_in R a ≡ looked_up_in S a) L tenant id _
      (λ B. same_answer R L B a refl)
      (λ z B. same_answer R (with_event L (removed id)) B a (same-look L (removed id) (tenant_of a) a (removed-aside id a L.events f)))
      (turn S L A (crashed_delete tenant id n beam))

  -- a recover where nothing crashed
  idle : (recover_reply S.table S.medium ≡ accepted) × (recovered S ≡ S)
  unfolding recovered
  idle = ((recover-idle A).0, ap (λ (t : Table). record { table = t; medium = S.medium }) (recover-idle A).1)

-- an id has a last write or none, and not both
not-both : {o : Option Version} {x : Version} → o ≡ None → o ≡ Some x → ⊥
not-both p q = let z : ◌≡◌ {A = ℕ} 0 1 = cc in omega arith

nothing : (o : Option Version) → ((x : Version) → o ≡ Some x → ⊥) → o ≡ None
nothing None f = refl
nothing (Some x) f = absurd (f x refl)

pub demand3 : (capacity salt n : ℕ) → first_of (start_rows capacity salt) ≡ 0 → (turns : List Turn) → Demand3 capacity salt n turns
unfolding compared fresh_ledger taken
demand3 capacity salt n z turns =
    let S = state_then capacity salt n turns in
    let L = ledger_then capacity salt n turns in
    let then : (turns : List Turn) → Agrees (state_then capacity salt n turns) (ledger_then capacity salt n turns)
    = λ turns. (run turns (begin capacity salt n) (fresh_ledger capacity salt n) (begin-agrees capacity salt n z)).agrees in
    let A = then turns in
    record {
      alike = (run turns (begin capacity salt n) (fresh_ledger capacity salt n) (begin-agrees capacity salt n z)).alike;
      batches = λ before later tenant ids e. same-batch (then before) tenant ids;
      finds = λ id value server w. finds S L A id (record { value = value; server = server }) (last_written L.events id value server w);
      absent = λ id s l. (
        λ e value server w. not-both ((absent S L A id s l).0 e) (last_written L.events id value server w),
        λ f. (absent S L A id s l).1 (nothing (last_write_of L.events id) (λ x e. f x.value x.server (last-came L.events id x e))),
      );
      unaltered = λ before later e a f.
          ap (λ (l : List Turn). nth (state_then capacity salt n l).medium a) (sym e)
          ∙ ap (λ (T : State). nth T.medium a) (after-append before later (begin capacity salt n))
          ∙ after-once later (state_then capacity salt n before) a f;
      on_medium = on_medium S L A;
      own = own S L A;
      live = live-writes S (fresh_ledger capacity salt n) (heard_then capacity salt n turns) refl A;
      never = λ before later c e. never (state_then capacity salt n before) (ledger_then capacity salt n before) (then before) c;
      write_shows = write-shows S L A;
      delete_shows = delete-shows S L A;
      write_others = write-others S L A;
      delete_others = delete-others S L A;
      write_recovers = crash-write-recovers S L A;
      delete_recovers = crash-delete-recovers S L A;
      idle = idle S L A;
    }
