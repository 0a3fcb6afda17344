-- Positions at or above the count have no bearing on any call, nor have the counters: tables that agree below the count and are
-- alike sound get the same replies and media, and again such tables.
-- Assumes nothing.
use Prim.Native.Nat.{ℕ, suc, ◌+◌, ◌-◌, ◌*◌, ◌≤◌, ◌<◌}
use mathlib.Core.Path.{◌≡◌, refl, sym, ap, ap₂, ◌∙◌, subst}
use mathlib.Core.Bool.{Bool, true, false, not, ◌&&◌}
use mathlib.Core.List.{List, ◌∷◌}
use native.Mathlib.Omega.{arith}
use lib.ListN.{length}
use lib.Dec.{leb, ltb, eqb}
use borrow.Author.Tests.{leb-false, eqb-false}
use Rattle.lists.specs.Below.{nth}
use Rattle.lists.proofs.Tests.{by_bool, true-not-false}
use Rattle.placement.proofs.Rules.{write_server-cong}
use Rattle.medium.specs.Word.{id_word, value_word, replaced, deleted}
use Rattle.medium.specs.Entry.{server_at, entry_at, blank_run}
use Rattle.medium.specs.Burn.{burn_all, marks_over, invalidations}
use Rattle.medium.proofs.Marks.{marks_over-cong}
use Rattle.table.specs.declared.Table.{Table}
use Rattle.table.specs.Parts.{weight_of, used_of, reads}
use Rattle.table.specs.Sound.{sound}
use Rattle.table.specs.Agree.{AgreeBelow}
use Rattle.upkeep.specs.Upkeep.{with_entry, with_opened}
use Rattle.table.proofs.Soundness.{Arrays, sound-facts}
use Rattle.upkeep.proofs.Upkeep.{with_server-arrays, with_weight-arrays, with_entry-arrays, with_opened-arrays}
use Rattle.upkeep.proofs.KeptSound.{with_server-sound, with_weight-sound, with_entry-sound, with_opened-sound}
use Rattle.upkeep.proofs.KeptAgreeing.{agree-with_server, agree-with_weight, agree-with_entry, agree-with_opened}
use Rattle.replies.specs.Refusal.{first_of}
use Rattle.replies.specs.declared.Reply.{Reply}
use Rattle.replies.specs.Reply.{on_server}
use Rattle.replies.proofs.Refusals.{more_same, first-same, settle-both, reply-same}
use Rattle.search.specs.Search.{Search}
use Rattle.search.specs.Opened.{lowest, opens, SameOpened}
use Rattle.checks.specs.Ready.{short, asked_rows}
use Rattle.checks.proofs.Passed.{asked-same, asked-numbered, asked-tests, asked-ready}
use Rattle.lookup.specs.Lookup.{lookup_rows, lookup_reply, lookup_table}
use Rattle.lookup.proofs.Passed.{lookup-accepted}
use Rattle.search.proofs.Searches.{reads_same}
use Rattle.lookup.proofs.OpenedByValues.{same_met, opened-by-values}
use Rattle.invalidation.specs.Marks.{marks_from}
use Rattle.deletion.specs.Deletion.{delete_rows, delete_marks, delete_reply, delete_medium}
use Rattle.deletion.proofs.Done.{deleted-some}
use Rattle.planning.specs.WriteRows.{target, entry_rows, write_rows}
use Rattle.writing.specs.Writing.{write_marks, write_burns, write_reply, write_table, write_medium}
use Rattle.planning.proofs.Passed.{target_is, write-accepted}
use Rattle.recovery.specs.Recovery.{used_on, with_used, recover_rows, recover_table}
use Rattle.recovery.proofs.Recovering.{used_on-le, with_used-arrays, with_used-at, with_used-sound, recover-accepted}
use Rattle.server_rows.specs.ServerRows.{add_server_rows, reweight_rows}
use Rattle.server_rows.proofs.Accepted.{add_server-accepted, reweight-accepted}
use Rattle.servers.specs.Servers.{add_server_reply, add_server_table, reweight_reply, reweight_table}
use Rattle.batch_answer.proofs.Orders.{batch-cong}
use Rattle.batch.specs.Batch.{lookup_opens, opened_at, batch_reply, batch_rows, batch_table}
use Rattle.batch_answer.specs.Answer.{too_long}

-- two tables that agree below the count and are alike sound, with their arrays' lengths
pub record Alike (t u : Table) : Type 0 where
  pub agree : AgreeBelow t u
  pub is_sound : sound t ≡ sound u
  pub one : Arrays t
  pub other : Arrays u

some-server : (t : Table) → eqb t.count 0 ≡ false → 0 < t.count
some-server t e = omega (arith, eqb-false t.count 0 e)

few : (t : Table) → sound t ≡ true → t.count ≤ 256
few t s = (sound-facts t s).few

module _ (t u : Table) (g : AgreeBelow t u) (h : sound t ≡ sound u) where
  same-sound : not (sound t) ≡ not (sound u)
  same-sound = ap not h

  same-short : (m : List ℕ) → short t m ≡ short u m
  unfolding short
  same-short m = ap₂ (λ (c n : ℕ). ltb (length m) (server_at c n)) g.capacity g.count

  same_reads : (id k : ℕ) → k < t.count → reads t id k ≡ reads u id k
  same_reads id k l = reads_same t u id k g.salt (g.read k l)

  -- the rows of each call

  pub add_server-rows : (m : List ℕ) (weight : ℕ) → first_of (add_server_rows t m weight) ≡ first_of (add_server_rows u m weight)
  unfolding add_server_rows
  add_server-rows m weight =
      first-same 1 _ _ _ _ same-sound (λ _.
      first-same 2 _ _ _ _ (ap (λ (c : ℕ). ltb c weight) g.capacity) (λ _.
      first-same 4 _ _ _ _ (ap (λ (n : ℕ). eqb n 256) g.count) (λ _.
      first-same 5 _ _ _ _ (ap₂ (λ (c n : ℕ). ltb (length m) (server_at c (suc n))) g.capacity g.count) (λ _.
      first-same 7 _ _ _ _ (ap₂ (λ (c n : ℕ). not (blank_run m (server_at c n) (3 * c))) g.capacity g.count) (λ _. refl)))))

  pub reweight-rows : (server weight : ℕ) → first_of (reweight_rows t server weight) ≡ first_of (reweight_rows u server weight)
  unfolding reweight_rows
  reweight-rows server weight =
      first-same 1 _ _ _ _ same-sound (λ _.
      first-same 2 _ _ _ _ (ap (λ (c : ℕ). ltb c weight) g.capacity) (λ _.
      first-same 3 _ _ _ _ (ap (λ (n : ℕ). leb n server) g.count) (λ e.
      first-same 9 _ _ _ _ (ap₂ (λ (c n : ℕ). ltb (c - n) weight) g.capacity (g.used server (leb-false _ _ e))) (λ _. refl))))

  -- what a write or a delete finds

  same_target : (id : ℕ) → target t id ≡ target u id
  unfolding target
  same_target id = write_server-cong (weight_of t) (weight_of u) _ _ _ _ id g.weight g.count g.salt

  same-used : (id : ℕ) → 0 < t.count → used_of t (target t id) ≡ used_of u (target u id)
  same-used id l = g.used (target t id) (target_is t id l).below ∙ ap (used_of u) (same_target id)

  same-entry : (id : ℕ) → 0 < t.count
      → entry_at t.capacity (target t id) (used_of t (target t id)) ≡ entry_at u.capacity (target u id) (used_of u (target u id))
  same-entry id l =
      ap₂ (λ (c k : ℕ). entry_at c k (used_of t (target t id))) g.capacity (same_target id)
      ∙ ap (entry_at u.capacity (target u id)) (same-used id l)

  same-marks : (m : List ℕ) (id from : ℕ) → marks_from t m id from ≡ marks_from u m id from
  same-marks m id from =
      marks_over-cong t.capacity (used_of t) (used_of u) m m id _ _ t.count (λ k l. ap (λ (b : Bool). leb from k && b) (same_reads id k l)) g.used (λ k j l i. record { id_same = refl; mark_same = refl })
      ∙ ap₂ (λ (c n : ℕ). marks_over c (used_of u) m id (λ k. leb from k && reads u id k) n) g.capacity g.count

  write-marks : (m : List ℕ) (id : ℕ) → write_marks t m id ≡ write_marks u m id
  unfolding write_marks
  write-marks m id = same-marks m id (target t id) ∙ ap (marks_from u m id) (same_target id)

  pub delete-marks : (m : List ℕ) (id : ℕ) → delete_marks t m id ≡ delete_marks u m id
  unfolding delete_marks
  delete-marks m id = same-marks m id 0

  pub write-burns : (m : List ℕ) (id value : ℕ) → 0 < t.count → write_burns t m id value ≡ write_burns u m id value
  unfolding write_burns
  write-burns m id value l = ap₂ (λ (a : ℕ) (marks : List ℕ).
      record { address = a + 1; word = value_word value }
      ∷ record { address = a; word = id_word id }
      ∷ invalidations replaced marks)
      (same-entry id l) (write-marks m id)

  asked-rows : (m : List ℕ) (tenant id : ℕ) (outside : Bool) → first_of (asked_rows t m tenant id outside) ≡ first_of (asked_rows u m tenant id outside)
  asked-rows m tenant id outside = asked-same t u m m tenant id outside h g.count (same-short m)

  pub write-rows : (m : List ℕ) (tenant id value : ℕ) → first_of (write_rows t m tenant id value) ≡ first_of (write_rows u m tenant id value)
  unfolding write_rows entry_rows
  write-rows m tenant id value = more_same _ _ _ _ (asked-numbered t m tenant id _) (asked-numbered u m tenant id _) (asked-rows m tenant id _) (λ z.
      let some = some-server t (asked-tests t m tenant id _ z).none in
      first-same 6 _ _ _ _ (ap₂ eqb (same-used id some) g.capacity) (λ _.
      first-same 7 _ _ _ _ (rw (same-entry id some)) (λ _. refl)))

  pub delete-rows : (m : List ℕ) (tenant id : ℕ) → first_of (delete_rows t m tenant id) ≡ first_of (delete_rows u m tenant id)
  unfolding delete_rows
  delete-rows m tenant id = more_same _ _ _ _ (asked-numbered t m tenant id _) (asked-numbered u m tenant id _) (asked-rows m tenant id _) (λ _.
      first-same 8 _ _ _ _ (ap not (deleted-some t m id ∙ ap (λ (l : List ℕ). not (eqb (length l) 0)) (delete-marks m id) ∙ sym (deleted-some u m id))) (λ _. refl))

  pub recover-rows : (m : List ℕ) → first_of (recover_rows t m) ≡ first_of (recover_rows u m)
  unfolding recover_rows
  recover-rows m = first-same 1 _ _ _ _ same-sound (λ _. first-same 5 _ _ _ _ (same-short m) (λ _. refl))

  -- replies and media

  pub add_server-same : (m : List ℕ) (weight : ℕ) → add_server_reply t m weight ≡ add_server_reply u m weight
  unfolding add_server_reply
  add_server-same m weight = reply-same _ _ (add_server-rows m weight) _ _ (λ _. ap (λ (k : ℕ). on_server k 0) g.count)

  pub reweight-same : (server weight : ℕ) → reweight_reply t server weight ≡ reweight_reply u server weight
  unfolding reweight_reply
  reweight-same server weight = reply-same _ _ (reweight-rows server weight) _ _ (λ _. refl)

  pub write_same : (m : List ℕ) (tenant id value : ℕ) → (write_reply t m tenant id value ≡ write_reply u m tenant id value) × (write_medium t m tenant id value ≡ write_medium u m tenant id value)
  unfolding write_reply write_medium
  write_same m tenant id value =
      let e = write-rows m tenant id value in (
        reply-same _ _ e _ _ (λ _. ap₂ (λ (k : ℕ) (l : List ℕ). on_server k (length l)) (same_target id) (write-marks m id)),
        settle-both _ _ e (◌≡◌ {A = List ℕ}) _ _ _ _ (λ z. ap (burn_all m) (write-burns m id value (omega (arith, (write-accepted t m tenant id value z).there)))) refl,
      )

  pub delete-below : (m : List ℕ) (tenant id : ℕ) → (delete_reply t m tenant id ≡ delete_reply u m tenant id) × (delete_medium t m tenant id ≡ delete_medium u m tenant id)
  unfolding delete_reply delete_medium
  delete-below m tenant id =
      let e = delete-rows m tenant id in (
        reply-same _ _ e _ _ (λ _. ap (λ (l : List ℕ). on_server 0 (length l)) (delete-marks m id)),
        settle-both _ _ e (◌≡◌ {A = List ℕ}) _ _ _ _ (λ _. ap (λ (l : List ℕ). burn_all m (invalidations deleted l)) (delete-marks m id)) refl,
      )

  -- lookups: the servers that they open are the same in all that counts
  same-servers : (m : List ℕ) (id : ℕ) → SameOpened t u m m id
  same-servers m id = record {
    capacity = g.capacity;
    salt = g.salt;
    count = g.count;
    weights = g.weight;
    read_ps = g.read;
    long = refl;
    used = λ k l o. g.used k l;
    words = λ k a l o b c. refl;
  }

  pub lookup-below : (m : List ℕ) (tenant id : ℕ) → lookup_reply t m tenant id ≡ lookup_reply u m tenant id
  unfolding lookup_reply lookup_rows
  lookup-below m tenant id = by_bool (sound t)
      (λ s. opened-by-values t u m m id s (sym h ∙ s) (same-servers m id) tenant)
      (λ s. reply-same _ _ (asked-rows m tenant id _) _ _ (λ z. absurd (true-not-false (asked-ready t m tenant id _ z).is_sound s)))

  opens-below : (m : List ℕ) (tenant id k : ℕ) → k < t.count → lookup_opens t m tenant id k ≡ lookup_opens u m tenant id k
  unfolding lookup_opens opens lookup_rows
  opens-below m tenant id k l = settle-both (lookup_rows t m tenant id) (lookup_rows u m tenant id) (asked-rows m tenant id _) (◌≡◌ {A = Bool}) _ _ false false
      (λ z.
      let s = (lookup-accepted t m tenant id z).is_sound in
      ap₂ (λ (x : Search) (b : Bool). leb (lowest x.met) k && b) (same_met t u m m id s (sym h ∙ s) (same-servers m id)) (same_reads id k l))
      refl

  pub batch-below : (m : List ℕ) (tenant : ℕ) (ids : List ℕ) → batch_reply t m tenant ids ≡ batch_reply u m tenant ids
  unfolding batch_reply opened_at batch_rows
  batch-below m tenant ids = batch-cong ids (batch_rows t ids) (batch_rows u ids) (first-same 1 _ _ _ _ (ap (λ (b : Bool). too_long ids && b) same-sound) (λ _. refl)) (opened_at t m tenant ids) (opened_at u m tenant ids) t.count u.count g.count
      (λ i k l. opens-below m tenant (nth ids i) k l) _ _ _ _ _ _
      (λ i.
      let e = lookup-below m tenant (nth ids i) in
      (ap (λ (r : Reply). r.refusal) e, ap (λ (r : Reply). r.value) e, ap (λ (r : Reply). r.opened) e))

module _ (t u : Table) (a : Alike t u) where
  -- servers opened for a tenant, in one table and in the other
  opened-alike : (tenant : ℕ) (opened opened' : ℕ) → Alike (with_opened t tenant opened) (with_opened u tenant opened')
  opened-alike tenant opened opened' = record {
    agree = agree-with_opened t u tenant tenant opened opened' a.agree;
    is_sound = with_opened-sound t tenant opened ∙ a.is_sound ∙ sym (with_opened-sound u tenant opened');
    one = with_opened-arrays t tenant opened a.one;
    other = with_opened-arrays u tenant opened' a.other;
  }

  pub lookup-alike : (m : List ℕ) (tenant id : ℕ) → Alike (lookup_table t m tenant id) (lookup_table u m tenant id)
  unfolding lookup_table
  lookup-alike m tenant id = opened-alike tenant _ _

  pub batch-alike : (m : List ℕ) (tenant : ℕ) (ids : List ℕ) → Alike (batch_table t m tenant ids) (batch_table u m tenant ids)
  unfolding batch_table
  batch-alike m tenant ids = opened-alike tenant _ _

  pub add_server-below : (m : List ℕ) (weight : ℕ)
      → (add_server_reply t m weight ≡ add_server_reply u m weight) × Alike (add_server_table t m weight) (add_server_table u m weight)
  unfolding add_server_table
  add_server-below m weight =
      let g = a.agree in
      let e = add_server-rows t u g a.is_sound m weight in (
        add_server-same t u g a.is_sound m weight,
        settle-both _ _ e Alike _ _ t u (λ z.
            let f = add_server-accepted t m weight z in
            let f' = add_server-accepted u m weight (sym e ∙ z) in
            record {
              agree = agree-with_server t u weight a.one a.other f.few g;
              is_sound =
                  with_server-sound t weight a.one f.is_sound f.few f.light
                  ∙ sym (with_server-sound u weight a.other f'.is_sound f'.few f'.light);
              one = with_server-arrays t weight a.one;
              other = with_server-arrays u weight a.other;
            }) a,
      )

  pub reweight-below : (server weight : ℕ)
      → (reweight_reply t server weight ≡ reweight_reply u server weight) × Alike (reweight_table t server weight) (reweight_table u server weight)
  unfolding reweight_table
  reweight-below server weight =
      let g = a.agree in
      let e = reweight-rows t u g a.is_sound server weight in (
        reweight-same t u g a.is_sound server weight,
        settle-both _ _ e Alike _ _ t u (λ z.
            let f = reweight-accepted t server weight z in
            let f' = reweight-accepted u server weight (sym e ∙ z) in
            record {
              agree = agree-with_weight t u server weight a.one a.other (few t f.is_sound) f.there g;
              is_sound =
                  with_weight-sound t server weight a.one f.is_sound f.there f.light
                  ∙ sym (with_weight-sound u server weight a.other f'.is_sound f'.there f'.light);
              one = with_weight-arrays t server weight a.one;
              other = with_weight-arrays u server weight a.other;
            }) a,
      )

  pub write-below : (m : List ℕ) (tenant id value : ℕ)
      → (write_reply t m tenant id value ≡ write_reply u m tenant id value)
      × Alike (write_table t m tenant id value) (write_table u m tenant id value)
      × (write_medium t m tenant id value ≡ write_medium u m tenant id value)
  unfolding write_table
  write-below m tenant id value =
      let g = a.agree in
      let e = write-rows t u g a.is_sound m tenant id value in
      let same = write_same t u g a.is_sound m tenant id value in (
        same.0,
        settle-both _ _ e Alike _ _ t u (λ z.
            let f = write-accepted t m tenant id value z in
            let f' = write-accepted u m tenant id value (sym e ∙ z) in
            record {
              agree = subst (λ (k : ℕ). AgreeBelow (with_entry t (target t id)) (with_entry u k)) (same_target t u g a.is_sound id)
                  (agree-with_entry t u (target t id) a.one a.other (few t f.is_sound) f.there g);
              is_sound =
                  with_entry-sound t (target t id) a.one f.is_sound f.there f.free
                  ∙ sym (with_entry-sound u (target u id) a.other f'.is_sound f'.there f'.free);
              one = with_entry-arrays t (target t id) a.one;
              other = with_entry-arrays u (target u id) a.other;
            }) a,
        same.1,
      )

  pub recover-below : (m : List ℕ) → Alike (recover_table t m) (recover_table u m)
  unfolding recover_table with_used
  recover-below m =
      let g = a.agree in
      settle-both (recover_rows t m) (recover_rows u m) (recover-rows t u g a.is_sound m) Alike _ _ t u (λ z.
      let s = (recover-accepted t m z).is_sound in
      let s' = sym a.is_sound ∙ s in
      let f = used_on t.capacity m in
      let f' = used_on u.capacity m in
      record {
        agree = record {
          capacity = g.capacity;
          salt = g.salt;
          count = g.count;
          weight = g.weight;
          used = λ k l.
              with_used-at t f a.one (few t s) k l
              ∙ ap (λ (c : ℕ). used_on c m k) g.capacity
              ∙ sym (with_used-at u f' a.other (few u s') k (omega (arith, g.count)));
          read = g.read;
        };
        is_sound =
            with_used-sound t f a.one s (λ k l. used_on-le t.capacity m k)
            ∙ sym (with_used-sound u f' a.other s' (λ k l. used_on-le u.capacity m k));
        one = with_used-arrays t f a.one;
        other = with_used-arrays u f' a.other;
      }) a
