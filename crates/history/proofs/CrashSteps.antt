-- A crashed write or delete with its recover, against the ledger that hears the outcome; and a recover where nothing crashed.
-- Assumes nothing.
use Prim.Native.Nat.{ℕ, ◌-◌, ◌<◌}
use mathlib.Core.Path.{◌≡◌, refl, sym, ap, ap₂, ◌∙◌}
use mathlib.Core.Logic.{◌⊎◌, inl, inr}
use mathlib.Core.Bool.{Bool, true, false, cond, not, ◌&&◌}
use mathlib.Core.List.{List, ◌∷◌}
use Rattle.std.specs.Prelude.{Option, None, Some}
use native.Mathlib.Omega.{arith}
use lib.ListN.{length, take, drop}
use lib.Dec.{eqb}
use borrow.Author.Tests.{le-ltb, eqb-true, eqb-false, eq-eqb}
use Rattle.limits.specs.Limits.{content_range}
use Rattle.lists.proofs.Tests.{by_bool, true-not-false, and_l, and_r, and_i}
use Rattle.medium.specs.Entry.{entry_words, server_at, entry_at, bears, blank_run}
use Rattle.medium.specs.Burn.{Burn, burn_all}
use Rattle.medium.proofs.Entries.{blank-run}
use Rattle.table.specs.declared.Table.{Table}
use Rattle.table.specs.Parts.{used_of}
use Rattle.table.proofs.Soundness.{sound-facts}
use Rattle.replies.specs.Refusal.{first_of, settle}
use Rattle.replies.specs.Reply.{accepted}
use Rattle.replies.proofs.Refusals.{settle-yes, settle-no}
use Rattle.replies.proofs.Answers.{reply-done}
use Rattle.checks.specs.Ready.{short}
use Rattle.search.specs.declared.Place.{Place}
use Rattle.search.specs.Search.{search_for}
use Rattle.deletion.specs.Deletion.{is_met, delete_rows, delete_burns, delete_some_medium}
use Rattle.planning.specs.WriteRows.{target, write_rows}
use Rattle.writing.specs.Writing.{write_burns, write_some_medium}
use Rattle.recovery.specs.Recovery.{touched, used_on, with_used, recover_rows, recover_reply, recover_table}
use Rattle.recovery.proofs.Recovering.{used_on-le, used_on-is, with_used-arrays, with_used-at, with_used-sound, with_used-same}
use Rattle.history.specs.Beam.{Beam, under_beam}
use Rattle.history.specs.Call.{crashed_write, crashed_delete}
use Rattle.history.specs.Machine.{State, crash_write, crash_delete, recovered, turned}
use Rattle.history.specs.Hearing.{is_at, hear}
use Rattle.history.specs.Ledger.{Event, wrote, removed, spent, Ledger, entries_l, used_by, with_event, target_l, write_rows_l, delete_rows_l, crashed_write_l, crashed_delete_l, noted, reads_l}
use Rattle.history.proofs.Strikes.{struck, length-struck}
use Rattle.history.proofs.Tops.{TopAt}
use Rattle.history.proofs.Events.{place_of, Takes, wrote-takes, spent-takes, used-self, wrote_self, removed-self, spent-placed}
use Rattle.history.proofs.Holds.{Holds, bears-used}
use Rattle.history.proofs.WriteBurns.{Left, as_lent, spoilt, shown, crash-leaves as write-leaves}
use Rattle.history.proofs.DeletedMedium.{crash-leaves as delete-leaves}
use Rattle.history.proofs.Agree.{Agree, same_target, same_met}
use Rattle.history.proofs.WriteStep.{accepted as write-accepted, same_rows as same_write, write-burns, blank-entry}
use Rattle.history.proofs.DeleteStep.{accepted-id, same_rows as same-delete, delete-burns, met-here}

-- the ledger with other events
unfoldable with_events : Ledger → List Event → Ledger
with_events L events = record {
  capacity = L.capacity;
  salt = L.salt;
  words = L.words;
  servers = L.servers;
  weight = L.weight;
  greatest = L.greatest;
  events = events;
}

-- recover finds the ledger's used
used-on : {capacity count : ℕ} {rule : ℕ → ℕ → Bool} {events : List Event} {m : List ℕ} → Holds capacity count rule events m → (k : ℕ) → k < count → used_on capacity m k ≡ used_by events k
unfolding touched
used-on {capacity} {count} {rule} {events} {m} H k l = used_on-is capacity m k (used_by events k) (H.fits k)
    (λ j u i. ap not (blank-run m (entry_at capacity k j) entry_words (λ q b. H.free k j q l u i b)))
    (λ p. ap not (H.filled k (used_by events k - 1) l (omega arith)))

module _ {t : Table} {m : List ℕ} {L : Ledger} (A : Agree t m L) where
  -- recover on a medium of the same length, of any words
  module _ (N : List ℕ) (long : length N ≡ length m) where
    not-refused : first_of (recover_rows t N) ≡ 0
    unfolding first_of recover_rows short
    not-refused = rw (A.is_sound, le-ltb (length N) (server_at t.capacity t.count) (omega (arith, long, A.holds.long)))

    recover-accepted : recover_reply t N ≡ accepted
    unfolding recover_reply
    recover-accepted = reply-done (recover_rows t N) not-refused accepted

  -- and on one that holds some events
  module _ {events : List Event} {N : List ℕ} (long : length N ≡ length m) (H : Holds t.capacity t.count (reads_l L) events N) where
    abbrev counted : ℕ → ℕ
    counted = used_on t.capacity N

    recover-is : recover_table t N ≡ with_used t counted
    unfolding recover_table
    recover-is = settle-yes (recover_rows t N) (with_used t counted) t (not-refused N long)

    recover-agrees : Agree (recover_table t N) N (with_events L events)
    unfolding with_used with_events
    recover-agrees = rw recover-is (record {
      is_sound = with_used-sound t counted A.arrays A.is_sound (λ k l. used_on-le t.capacity N k);
      arrays = with_used-arrays t counted A.arrays;
      capacity = A.capacity;
      salt = A.salt;
      count = A.count;
      weights = A.weights;
      used = λ k l. with_used-at t counted A.arrays (sound-facts t A.is_sound).few k l ∙ used-on H k l;
      read_ps = A.read_ps;
      words = long ∙ A.words;
      holds = H;
    })

  -- where nothing crashed it is accepted and changes nothing
  pub recover-idle : (recover_reply t m ≡ accepted) × (recover_table t m ≡ t)
  recover-idle = (
    recover-accepted m refl,
    recover-is refl A.holds
        ∙ with_used-same t (used_on t.capacity m) A.arrays (sound-facts t A.is_sound).few (λ k l. used-on A.holds k l ∙ sym (A.used k l)),
  )

  idle-agrees : Agree (recover_table t m) m L
  idle-agrees = rw recover-idle.1 A

  -- what a lookup meets then is what the events say
  met-is : {events : List Event} {N : List ℕ} → length N ≡ length m → Holds t.capacity t.count (reads_l L) events N → (id : ℕ) → id < content_range
      → (search_for (recover_table t N) N id).met ≡ place_of events id
  unfolding with_events
  met-is long H id small = same_met (recover-agrees long H) id small

  -- the next entry of a server is not that of any write
  not_there : (id k : ℕ) → id < content_range → is_at k (used_by L.events k) (place_of L.events id) ≡ false
  unfolding is_at TopAt
  not_there id k small = go (place_of L.events id) (A.holds.tops id small)
    where
      go : (o : Option Place) → TopAt (bears t.capacity m id) t.count t.capacity o → is_at k (used_by L.events k) o ≡ false
      go None T = refl
      go (Some p) T = by_bool (eqb p.server k && eqb p.entry (used_by L.events k))
          (λ d.
          let a = eqb-true p.server k (and_l (eqb p.server k) (eqb p.entry (used_by L.events k)) d) in
          let b = eqb-true p.entry (used_by L.events k) (and_r (eqb p.server k) (eqb p.entry (used_by L.events k)) d) in
          absurd (omega (arith, b, ap (used_by L.events) a, bears-used A.holds id p.server p.entry small T.low T.inside T.on)))
          (λ d. d)

there : (id value k : ℕ) (events : List Event) → is_at k (used_by events k) (place_of (wrote id value k ∷ events) id) ≡ true
unfolding is_at
there id value k events = rw (wrote_self id value k events) (and_i (eqb k k) (eqb (used_by events k) (used_by events k)) (eq-eqb k k refl) (eq-eqb (used_by events k) (used_by events k) refl))

-- a crashed write
module _ {t : Table} {m : List ℕ} {L : Ledger} (A : Agree t m L) (tenant id value : ℕ) where
  abbrev server : ℕ
  server = target t id

  -- of the medium N, whether the target entry is not wholly blank, and whether a lookup meets it; by the table
  abbrev is_touched : List ℕ → Bool
  is_touched N = touched t.capacity N server (used_of t server)

  abbrev is_met_there : List ℕ → Bool
  is_met_there N = is_at server (used_of t server) (search_for (recover_table t N) N id).met

  -- and by the ledger, which is what it hears
  abbrev is_touched_l : List ℕ → Bool
  is_touched_l N = touched (entries_l L) N (target_l L id) (used_by L.events (target_l L id))

  abbrev is_met_l : List ℕ → Bool
  is_met_l N = is_at (target_l L id) (used_by L.events (target_l L id)) (search_for (recover_table t N) N id).met

  -- a refused one changes nothing
  refused-write : (first_of (write_rows t m tenant id value) ≡ 0 → ⊥) → (b c : Bool) → crashed_write_l L tenant id value b c ≡ L
  unfolding crashed_write_l
  refused-write f b c = settle-no (write_rows_l L tenant id value) _ L (λ y. f (same_write A tenant id value ∙ y))

  module _ (z : first_of (write_rows t m tenant id value) ≡ 0) where
    took : (b c : Bool) → crashed_write_l L tenant id value b c ≡ cond c (with_event L (wrote id value server)) (cond b (with_event L (spent server)) L)
    unfolding crashed_write_l
    took b c = settle-yes (write_rows_l L tenant id value) _ L (sym (same_write A tenant id value) ∙ z) ∙ rw (same_target A id)

    used-is : used_of t server ≡ used_by L.events server
    used-is = A.used server (write-accepted A tenant id value z).there

    -- which are the same
    touched-l : (N : List ℕ) → is_touched_l N ≡ is_touched N
    touched-l N = rw (used-is, same_target A id, A.capacity)

    met-l : (N : List ℕ) → is_met_l N ≡ is_met_there N
    met-l N = rw (used-is, same_target A id)

    module _ {N : List ℕ} (long : length N ≡ length m) where
      met_by : {events : List Event} → Holds t.capacity t.count (reads_l L) events N → is_met_there N ≡ is_at server (used_by L.events server) (place_of events id)
      met_by H = ap₂ (is_at server) used-is (met-is A long H id (write-accepted A tenant id value z).small)

      filled-by : {x : Event} → Takes x server → Holds t.capacity t.count (reads_l L) (x ∷ L.events) N → is_touched N ≡ true
      unfolding touched
      filled-by T H =
          let full : blank_run N (entry_at t.capacity server (used_of t server)) entry_words ≡ false
          = rw used-is (H.filled server (used_by L.events server) (write-accepted A tenant id value z).there (omega (arith, used-self T L.events))) in
          ap not full

      write-heard : Left t.capacity t.count (reads_l L) L.events m id value server N
          → Agree (recover_table t N) N (crashed_write_l L tenant id value (is_touched N) (is_met_there N))
      unfolding with_events with_event touched
      write-heard (as_lent q) =
          let H : Holds t.capacity t.count (reads_l L) L.events N = rw q A.holds in
          let w = write-accepted A tenant id value z in
          let blank-there : blank_run N (entry_at t.capacity server (used_of t server)) entry_words ≡ true = rw q (blank-entry A tenant id value w.there w.room) in
          let b : is_touched N ≡ false = ap not blank-there in
          let c : is_met_there N ≡ false = met_by H ∙ not_there A id server w.small in
          rw (b, c, took false false) (recover-agrees A long H)
      write-heard (spoilt H) =
          let b : is_touched N ≡ true = filled-by (spent-takes server) H in
          let c : is_met_there N ≡ false = met_by H ∙ ap (is_at server (used_by L.events server)) (spent-placed server id L.events) ∙ not_there A id server (write-accepted A tenant id value z).small in
          rw (b, c, took true false) (recover-agrees A long H)
      write-heard (shown H) =
          let b : is_touched N ≡ true = filled-by (wrote-takes id value server) H in
          let c : is_met_there N ≡ true = met_by H ∙ there id value server L.events in
          rw (b, c, took true true) (recover-agrees A long H)

  -- the medium after the crash, for any number of burns and any beam
  module _ (n : ℕ) (beam : Beam) where
    abbrev write_left : List ℕ
    write_left = settle (write_rows t m tenant id value) (under_beam beam (drop n (write_burns t m id value)) (write_some_medium t m tenant id value n)) m

    write-left : first_of (write_rows t m tenant id value) ≡ 0 → write_left ≡ struck m (write_burns t m id value) n beam
    unfolding write_some_medium
    write-left z =
        settle-yes (write_rows t m tenant id value) _ m z
        ∙ ap (under_beam beam (drop n (write_burns t m id value))) (settle-yes (write_rows t m tenant id value) (burn_all m (take n (write_burns t m id value))) m z)

    write-long : length write_left ≡ length m
    write-long = by_bool (eqb (first_of (write_rows t m tenant id value)) 0)
        (λ d. ap length (write-left (eqb-true (first_of (write_rows t m tenant id value)) 0 d)) ∙ length-struck m (write_burns t m id value) n beam)
        (λ d. ap length (settle-no (write_rows t m tenant id value) _ m (eqb-false (first_of (write_rows t m tenant id value)) 0 d)))

    write-crashed : Agree (recover_table t write_left) write_left (crashed_write_l L tenant id value (is_touched_l write_left) (is_met_l write_left))
    write-crashed = by_bool (eqb (first_of (write_rows t m tenant id value)) 0)
        (λ d.
        let z = eqb-true (first_of (write_rows t m tenant id value)) 0 d in
        let w = write-accepted A tenant id value z in
        let e = write-left z ∙ ap (λ (bs : List Burn). struck m bs n beam) (write-burns A tenant id value w.there) in
        rw (touched-l z write_left, met-l z write_left) (write-heard z write-long (rw e (write-leaves A.holds w n beam))))
        (λ d.
        let f = eqb-false (first_of (write_rows t m tenant id value)) 0 d in
        rw (settle-no (write_rows t m tenant id value) (under_beam beam (drop n (write_burns t m id value)) (write_some_medium t m tenant id value n)) m f) (rw (refused-write f (is_touched_l m) (is_met_l m)) (idle-agrees A)))

-- a crashed delete
module _ {t : Table} {m : List ℕ} {L : Ledger} (A : Agree t m L) (tenant id : ℕ) where
  abbrev is_gone : List ℕ → Bool
  is_gone N = not (is_met (search_for (recover_table t N) N id).met)

  refused-delete : (first_of (delete_rows t m tenant id) ≡ 0 → ⊥) → (b : Bool) → crashed_delete_l L tenant id b ≡ L
  unfolding crashed_delete_l
  refused-delete f b = settle-no (delete_rows_l L tenant id) _ L (λ y. f (same-delete A id tenant ∙ y))

  module _ (z : first_of (delete_rows t m tenant id) ≡ 0) where
    -- an id that is deleted is there
    placed : (y : Place) × (place_of L.events id ≡ Some y)
    unfolding is_met
    placed = go (place_of L.events id) refl
      where
        go : (o : Option Place) → place_of L.events id ≡ o → (y : Place) × (place_of L.events id ≡ Some y)
        go None q = absurd (true-not-false (met-here A id tenant z) (ap is_met (same_met A id (accepted-id A id tenant z) ∙ q)))
        go (Some y) q = (y, q)

    went : (b : Bool) → crashed_delete_l L tenant id b ≡ cond b (with_event L (removed id)) L
    unfolding crashed_delete_l
    went b = settle-yes (delete_rows_l L tenant id) _ L (sym (same-delete A id tenant) ∙ z)

    gone-by : {N : List ℕ} {events : List Event} → length N ≡ length m → Holds t.capacity t.count (reads_l L) events N → is_gone N ≡ not (is_met (place_of events id))
    gone-by long H = ap (λ (o : Option Place). not (is_met o)) (met-is A long H id (accepted-id A id tenant z))

    delete-heard : {N : List ℕ} → length N ≡ length m → (y : Place) → place_of L.events id ≡ Some y
        → Holds t.capacity t.count (reads_l L) (removed id ∷ L.events) N ⊎ Holds t.capacity t.count (reads_l L) L.events N
        → Agree (recover_table t N) N (crashed_delete_l L tenant id (is_gone N))
    unfolding with_events with_event is_met
    delete-heard long y q (inl H) =
        let c = gone-by long H ∙ ap (λ (o : Option Place). not (is_met o)) (removed-self id L.events) in
        rw (c, went true) (recover-agrees A long H)
    delete-heard long y q (inr H) =
        let c = gone-by long H ∙ ap (λ (o : Option Place). not (is_met o)) q in
        rw (c, went false) (recover-agrees A long H)

  module _ (n : ℕ) (beam : Beam) where
    abbrev delete_left : List ℕ
    delete_left = settle (delete_rows t m tenant id) (under_beam beam (drop n (delete_burns t m id)) (delete_some_medium t m tenant id n)) m

    delete-left : first_of (delete_rows t m tenant id) ≡ 0 → delete_left ≡ struck m (delete_burns t m id) n beam
    unfolding delete_some_medium
    delete-left z =
        settle-yes (delete_rows t m tenant id) _ m z
        ∙ ap (under_beam beam (drop n (delete_burns t m id))) (settle-yes (delete_rows t m tenant id) (burn_all m (take n (delete_burns t m id))) m z)

    delete-long : length delete_left ≡ length m
    delete-long = by_bool (eqb (first_of (delete_rows t m tenant id)) 0)
        (λ d. ap length (delete-left (eqb-true (first_of (delete_rows t m tenant id)) 0 d)) ∙ length-struck m (delete_burns t m id) n beam)
        (λ d. ap length (settle-no (delete_rows t m tenant id) _ m (eqb-false (first_of (delete_rows t m tenant id)) 0 d)))

    delete-crashed : Agree (recover_table t delete_left) delete_left (crashed_delete_l L tenant id (is_gone delete_left))
    delete-crashed = by_bool (eqb (first_of (delete_rows t m tenant id)) 0)
        (λ d.
        let z = eqb-true (first_of (delete_rows t m tenant id)) 0 d in
        let small = accepted-id A id tenant z in
        let e = delete-left z ∙ ap (λ (bs : List Burn). struck m bs n beam) (delete-burns A id) in
        let y = placed z in
        delete-heard z delete-long y.0 y.1 (rw e (delete-leaves A.holds id small y.0 y.1 n beam)))
        (λ d.
        let f = eqb-false (first_of (delete_rows t m tenant id)) 0 d in
        rw (settle-no (delete_rows t m tenant id) (under_beam beam (drop n (delete_burns t m id)) (delete_some_medium t m tenant id n)) m f) (rw (refused-delete f (is_gone m)) (idle-agrees A)))

-- the turns of a list
module _ (S : State) (L : Ledger) (A : Agree S.table S.medium L) where
  pub crash-write-step : (tenant id value n : ℕ) (beam : Beam)
      → let x = crashed_write tenant id value n beam in Agree (turned S x).table (turned S x).medium (noted L (hear S L x))
  unfolding turned recovered crash_write noted hear
  crash-write-step tenant id value n beam = write-crashed A tenant id value n beam

  pub crash-delete-step : (tenant id n : ℕ) (beam : Beam)
      → let x = crashed_delete tenant id n beam in Agree (turned S x).table (turned S x).medium (noted L (hear S L x))
  unfolding turned recovered crash_delete noted hear
  crash-delete-step tenant id n beam = delete-crashed A tenant id n beam

  -- and the recover made next in each
  pub crash-write-recovers : (tenant id value n : ℕ) (beam : Beam)
      → let C = crash_write S tenant id value n beam in recover_reply C.table C.medium ≡ accepted
  unfolding crash_write
  crash-write-recovers tenant id value n beam = recover-accepted A _ (write-long A tenant id value n beam)

  pub crash-delete-recovers : (tenant id n : ℕ) (beam : Beam)
      → let C = crash_delete S tenant id n beam in recover_reply C.table C.medium ≡ accepted
  unfolding crash_delete
  crash-delete-recovers tenant id n beam = recover-accepted A _ (delete-long A tenant id n beam)
