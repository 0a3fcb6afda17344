-- A batch of lookups server by server: what holds of an id's part in it once the servers from k on are done.
-- Assumes nothing.
use Prim.Native.Nat.{ℕ, suc, ◌<◌}
use mathlib.Core.Path.{◌≡◌, refl, sym, ap, ◌∙◌}
use mathlib.Core.Logic.{◌⊎◌, inl, inr, ⊎_elim, ◌≢◌}
use mathlib.Core.Bool.{Bool, true, false, cond, not}
use mathlib.Core.List.{List}
use Rattle.std.specs.Prelude.{Option, None, Some}
use native.Mathlib.Omega.{arith}
use lib.ListN.{length}
use lib.Dec.{leb, eqb}
use borrow.Author.Tests.{eqb-true, eqb-false, eq-eqb, le-leb, lt-leb}
use Rattle.lists.specs.Below.{nth, count_below, some_below}
use Rattle.lists.proofs.Tests.{by_bool}
use Rattle.lists.proofs.Below.{count_below-cong, count_below-none, some_below-in, some_below-none}
use Rattle.tenants.specs.Tenant.{out_of_range, of_another}
use Rattle.placement.specs.Rule.{readable, takes}
use Rattle.words.specs.Word.{tag_of}
use Rattle.medium.specs.Entry.{value_at}
use Rattle.table.specs.declared.Table.{Table}
use Rattle.table.specs.Parts.{shape_of, used_of, read_p, reads}
use Rattle.table.specs.Sound.{sound}
use Rattle.replies.specs.Refusal.{first_of, settle}
use Rattle.replies.specs.declared.Reply.{Reply}
use Rattle.replies.specs.Reply.{refused, reply_by}
use Rattle.replies.proofs.Refusals.{settle-yes, settle-no}
use Rattle.replies.proofs.Answers.{reply-done}
use Rattle.search.specs.declared.Place.{Place}
use Rattle.search.specs.Search.{Search, last_live, opening, search_below, search_for}
use Rattle.search.specs.Opened.{lowest, opens}
use Rattle.checks.specs.Ready.{ready_rows, asked_rows, short}
use Rattle.lookup.specs.Lookup.{lookup_rows, met_reply, lookup_reply}
use Rattle.lookup.proofs.ServerZero.{ends_there}
use Rattle.lookup.proofs.Counting.{met-opened}
use Rattle.search.proofs.Searches.{search-cases, search-low, opened-are}
use Rattle.batch_begin.specs.Begin.{absent_so_far, first_refusal}
use Rattle.batch.specs.Batch.{lookup_opens}
use Rattle.batch_steps.specs.Steps.{Progress, visited, stepped}
use Rattle.batch_steps.proofs.Stepping.{step-tested, step-settled}
use Rattle.batch_answer.proofs.Tally.{Tally, tally-start, tally-none, tally-skip, tally-open, tally-above, tally-count}

-- refusal and value of an entry that is met do not hang on how many servers were opened, and it is not called absent
module _ (capacity : ℕ) (m : List ℕ) where
  met-same : (a b : ℕ) (p : Place)
      → ((met_reply capacity m a (Some p)).refusal ≡ (met_reply capacity m b (Some p)).refusal)
      × ((met_reply capacity m a (Some p)).value ≡ (met_reply capacity m b (Some p)).value)
  unfolding met_reply
  met-same a b p = by_bool (eqb (tag_of (nth m (value_at capacity p.server p.entry))) 1) (λ e. rw e (refl, refl)) (λ e. rw e (refl, refl))

  met-not-absent : (a : ℕ) (p : Place) → (met_reply capacity m a (Some p)).refusal ≢ 8
  unfolding met_reply
  met-not-absent a p = by_bool (eqb (tag_of (nth m (value_at capacity p.server p.entry))) 1)
      (λ e. rw e (λ z. omega arith)) (λ e. rw e (λ z. omega arith))

-- what the rows of a lookup give, by their tests: soundness, range, tenant, a server, enough words
number : Bool → Bool → Bool → Bool → Bool → ℕ
number a b o c d = cond a 1 (cond b 2 (cond o 11 (cond c 3 (cond d 5 0))))

-- the tests of an id against those of one that is in range and the caller's own
tests-say : (a b o c d : Bool)
    → (cond (eqb (number a false false c d) 1) 1 (cond b 2 (cond o 11 (absent_so_far (number a false false c d)))) ≡ absent_so_far (number a b o c d))
    × (number a b o c d ≡ 0 → number a false false c d ≡ 0)
    × (number a b o c d ≢ 8)
unfolding number absent_so_far
tests-say true b o c d = (refl, λ z. absurd (omega arith), λ z. omega arith)
tests-say false b o true d = by_bool b (λ e. rw e (refl, λ z. absurd (omega arith), λ z. omega arith)) (λ e. rw e (by_bool o (λ f. rw f (refl, λ z. absurd (omega arith), λ z. omega arith)) (λ f. rw f (refl, λ z. absurd (omega arith), λ z. omega arith))))
tests-say false b o false true = by_bool b (λ e. rw e (refl, λ z. absurd (omega arith), λ z. omega arith)) (λ e. rw e (by_bool o (λ f. rw f (refl, λ z. absurd (omega arith), λ z. omega arith)) (λ f. rw f (refl, λ z. absurd (omega arith), λ z. omega arith))))
tests-say false b o false false = by_bool b (λ e. rw e (refl, λ z. refl, λ z. omega arith)) (λ e. rw e (by_bool o (λ f. rw f (refl, λ z. refl, λ z. omega arith)) (λ f. rw f (refl, λ z. refl, λ z. omega arith))))

module _ (t : Table) (m : List ℕ) (tenant id : ℕ) where
  -- the search has met no entry so far, and goes on below k
  pub record Pending (k : ℕ) (p : Progress) : Type 0 where
    pub absent : p.refusal ≡ 8
    pub no_value : p.value ≡ 0
    pub ready : first_of (lookup_rows t m tenant id) ≡ 0
    pub left : (search_for t m id).met ≡ (search_below t m id k).met

  -- refused before its search, or ended by an entry: its reply stands, and no server below k is opened
  pub record Ended (k : ℕ) (p : Progress) : Type 0 where
    pub not_absent : p.refusal ≢ 8
    pub refusal : p.refusal ≡ (lookup_reply t m tenant id).refusal
    pub value : p.value ≡ (lookup_reply t m tenant id).value
    pub closed : (j : ℕ) → j < k → lookup_opens t m tenant id j ≡ false

  pub record DoneFrom (k : ℕ) (p : Progress) : Type 0 where
    pub tally : Tally (lookup_opens t m tenant id) t.count k p.opened p.end
    pub status : Pending k p ⊎ Ended k p

  -- the servers that it opens are those of its search where it comes to that, and else none
  opens-ready : first_of (lookup_rows t m tenant id) ≡ 0 → (k : ℕ) → lookup_opens t m tenant id k ≡ opens t m id k
  unfolding lookup_opens
  opens-ready z k = settle-yes (lookup_rows t m tenant id) (opens t m id k) false z

  opens-none : first_of (lookup_rows t m tenant id) ≢ 0 → (k : ℕ) → lookup_opens t m tenant id k ≡ false
  unfolding lookup_opens
  opens-none z k = settle-no (lookup_rows t m tenant id) (opens t m id k) false z

  -- the ids for which no server is opened are those refused before their search
  pub opened-or-refused : some_below (lookup_opens t m tenant id) t.count ≡ eqb (first_of (lookup_rows t m tenant id)) 0
  opened-or-refused = by_bool (eqb (first_of (lookup_rows t m tenant id)) 0)
      (λ e.
      let z = eqb-true (first_of (lookup_rows t m tenant id)) 0 e in
      let w = ends_there t m tenant id z in
      some_below-in (lookup_opens t m tenant id) t.count _ w.0 (opens-ready z _ ∙ w.1) ∙ sym e)
      (λ e. some_below-none (lookup_opens t m tenant id) t.count (λ k l. opens-none (eqb-false (first_of (lookup_rows t m tenant id)) 0 e) k) ∙ sym e)

  -- where the search meets an entry, no server below is opened
  closed-below : (p : Place) → first_of (lookup_rows t m tenant id) ≡ 0 → (search_for t m id).met ≡ Some p → (i : ℕ) → i < p.server → lookup_opens t m tenant id i ≡ false
  unfolding opens lowest
  closed-below p z e i b = opens-ready z i ∙ rw (e, lt-leb p.server i b)

  reply-met : (o : Option Place) → first_of (lookup_rows t m tenant id) ≡ 0 → (search_for t m id).met ≡ o
      → lookup_reply t m tenant id ≡ met_reply t.capacity m (length (search_for t m id).opened) o
  unfolding lookup_reply
  reply-met o z e = reply-done (lookup_rows t m tenant id) z _ ∙ ap (met_reply t.capacity m (length (search_for t m id).opened)) e

  -- the opened count of a single lookup is the number of the servers that it opens
  reply-opened : (lookup_reply t m tenant id).opened ≡ count_below (lookup_opens t m tenant id) t.count
  unfolding lookup_reply reply_by settle
  reply-opened = by_bool (eqb (first_of (lookup_rows t m tenant id)) 0)
      (λ e.
      let z = eqb-true (first_of (lookup_rows t m tenant id)) 0 e in
      rw e (met-opened t.capacity m (length (search_for t m id).opened) (search_for t m id).met
      ∙ (opened-are t m id).number
      ∙ count_below-cong (opens t m id) (lookup_opens t m tenant id) t.count (λ k l. sym (opens-ready z k))))
      (λ e. rw e (sym (count_below-none (lookup_opens t m tenant id) t.count (λ k l. opens-none (eqb-false (first_of (lookup_rows t m tenant id)) 0 e) k))))

  -- before the first server: what the tests say of an id in range tells what they say of this one
  first-number : first_refusal (first_of (ready_rows t m false false)) tenant id ≡ absent_so_far (first_of (lookup_rows t m tenant id))
  unfolding lookup_rows asked_rows ready_rows first_of first_refusal number
  first-number = (tests-say (not (sound t)) (out_of_range tenant id) (of_another tenant id) (eqb t.count 0) (short t m)).0

  ready-alike : first_of (lookup_rows t m tenant id) ≡ 0 → first_of (ready_rows t m false false) ≡ 0
  unfolding lookup_rows asked_rows ready_rows first_of number
  ready-alike = (tests-say (not (sound t)) (out_of_range tenant id) (of_another tenant id) (eqb t.count 0) (short t m)).1

  pub refused-opens : first_of (ready_rows t m false false) ≢ 0 → (k : ℕ) → lookup_opens t m tenant id k ≡ false
  refused-opens z k = opens-none (λ e. z (ready-alike e)) k

  not-absent : first_of (lookup_rows t m tenant id) ≢ 8
  unfolding lookup_rows asked_rows ready_rows first_of number
  not-absent = (tests-say (not (sound t)) (out_of_range tenant id) (of_another tenant id) (eqb t.count 0) (short t m)).2

  pub first_done : DoneFrom (settle (ready_rows t m false false) t.count 0)
      (record { refusal = first_refusal (first_of (ready_rows t m false false)) tenant id; value = 0; opened = 0; end = 0 })
  unfolding absent_so_far search_for lookup_reply reply_by
  first_done = rw first-number (by_bool (eqb (first_of (lookup_rows t m tenant id)) 0)
      (λ e.
      let z = eqb-true (first_of (lookup_rows t m tenant id)) 0 e in
      rw (e, settle-yes (ready_rows t m false false) t.count 0 (ready-alike z)) (record {
        tally = tally-start (lookup_opens t m tenant id) t.count;
        status = inl (record { absent = refl; no_value = refl; ready = z; left = left });
      }))
      (λ e.
      let z = eqb-false (first_of (lookup_rows t m tenant id)) 0 e in
      rw e (record {
        tally = tally-none (lookup_opens t m tenant id) t.count _ (opens-none z);
        status = inr (record {
          not_absent = not-absent;
          refusal = sym (ap (λ (x : Reply). x.refusal) (refused-reply z));
          value = sym (ap (λ (x : Reply). x.value) (refused-reply z));
          closed = λ j b. opens-none z j;
        });
      })))
    where
      left : (search_for t m id).met ≡ (search_below t m id t.count).met
      left = refl

      refused-reply : first_of (lookup_rows t m tenant id) ≢ 0 → lookup_reply t m tenant id ≡ refused (first_of (lookup_rows t m tenant id)) 0
      refused-reply z = settle-no (lookup_rows t m tenant id) _ _ z

  -- server k is next
  module _ (k : ℕ) (l : k < t.count) where
    abbrev next_part : Progress → Progress
    next_part p = stepped (read_p t k) (shape_of t) (used_of t k) m id k p

    -- of one that is absent so far, and of one that is not
    next-absent : (p : Progress) (b : Bool) → p.refusal ≡ 8 → reads t id k ≡ b
        → next_part p ≡ cond b (visited t.capacity m k (suc p.opened) (last_live t m id k)) p
    unfolding last_live readable takes
    next-absent p b a e = step-tested (read_p t k) (shape_of t) (used_of t k) m id k p a refl b e

    next-other : (p : Progress) → p.refusal ≢ 8 → next_part p ≡ p
    next-other p a = sym (step-settled (read_p t k) (shape_of t) (used_of t k) m id k p a)

    -- it is opened exactly where it is read for one that is absent so far
    opened-here : (o : Option Place) → first_of (lookup_rows t m tenant id) ≡ 0 → (search_for t m id).met ≡ o → leb (lowest o) k ≡ true
        → (b : Bool) → reads t id k ≡ b → lookup_opens t m tenant id k ≡ b
    unfolding opens
    opened-here o z e h b r = opens-ready z k ∙ rw (e, h, r)

    -- what one more server leaves, and whether it is opened
    pub record Stepped (p : Progress) : Type 0 where
      pub done : DoneFrom k p
      pub opened : eqb p.end (suc k) ≡ lookup_opens t m tenant id k

    skipped : (p : Progress) → DoneFrom (suc k) p → lookup_opens t m tenant id k ≡ false → Pending k p ⊎ Ended k p → Stepped p
    skipped p d o s = record {
      done = record { tally = tally-skip (lookup_opens t m tenant id) t.count k p.opened p.end d.tally o; status = s };
      opened = tally-above (lookup_opens t m tenant id) t.count k p.opened p.end d.tally ∙ sym o;
    }

    visited-is : (p q : Progress) → DoneFrom (suc k) p → lookup_opens t m tenant id k ≡ true → q.opened ≡ suc p.opened → q.end ≡ suc k
        → Pending k q ⊎ Ended k q → Stepped q
    visited-is p q d o a e s = record {
      done = record {
        tally = rw (a, e) (tally-open (lookup_opens t m tenant id) t.count k p.opened p.end d.tally l o);
        status = s;
      };
      opened = rw e (eq-eqb (suc k) (suc k) refl ∙ sym o);
    }

    in-vain : (p : Progress) → DoneFrom (suc k) p → Pending (suc k) p → reads t id k ≡ true
        → (search_for t m id).met ≡ (opening k None (search_below t m id k)).met
        → Stepped (visited t.capacity m k (suc p.opened) None)
    unfolding visited opening
    in-vain p d s r e =
        visited-is p _ d (opened-here _ s.ready e (search-low t m id k) true r) refl refl
        (inl (record { absent = refl; no_value = refl; ready = s.ready; left = e }))

    meets : (j : ℕ) (p : Progress) → DoneFrom (suc k) p → Pending (suc k) p → reads t id k ≡ true
        → (search_for t m id).met ≡ (opening k (Some j) (search_below t m id k)).met
        → Stepped (visited t.capacity m k (suc p.opened) (Some j))
    unfolding visited opening lowest
    meets j p d s r e =
        let here : Place = record { server = k; entry = j } in
        let reply = reply-met (Some here) s.ready e in
        let same = met-same t.capacity m (suc p.opened) (length (search_for t m id).opened) here in
        visited-is p _ d (opened-here (Some here) s.ready e (le-leb k k (omega arith)) true r) refl refl
        (inr (record {
          not_absent = met-not-absent t.capacity m (suc p.opened) here;
          refusal = same.0 ∙ sym (ap (λ (x : Reply). x.refusal) reply);
          value = same.1 ∙ sym (ap (λ (x : Reply). x.value) reply);
          closed = λ i b. closed-below here s.ready e i b;
        }))

    step-pending : (p : Progress) → DoneFrom (suc k) p → Pending (suc k) p → Stepped (next_part p)
    step-pending p d s = search-cases t m id (λ (x : Search). (search_for t m id).met ≡ x.met → Stepped (next_part p)) k
        (λ r e. rw (next-absent p false s.absent r) (skipped p d (opened-here _ s.ready e (search-low t m id k) false r)
        (inl (record { absent = s.absent; no_value = s.no_value; ready = s.ready; left = e }))))
        (λ r n e. rw (next-absent p true s.absent r, n) (in-vain p d s r e))
        (λ j r n e. rw (next-absent p true s.absent r, n) (meets j p d s r e))
        s.left

    pub step : (p : Progress) → DoneFrom (suc k) p → Stepped (next_part p)
    step p d = ⊎_elim (step-pending p d)
        (λ (s : Ended (suc k) p). rw (next-other p s.not_absent) (skipped p d (s.closed k (omega arith))
        (inr (record { not_absent = s.not_absent; refusal = s.refusal; value = s.value; closed = λ j b. s.closed j (omega arith) }))))
        d.status

  -- all servers are done: the reply is that of a single lookup
  pub all_done : (p : Progress) → DoneFrom 0 p
      → (p.refusal ≡ (lookup_reply t m tenant id).refusal) × (p.value ≡ (lookup_reply t m tenant id).value) × (p.opened ≡ (lookup_reply t m tenant id).opened)
  unfolding search_below met_reply
  all_done p d =
      let o = tally-count (lookup_opens t m tenant id) t.count p.opened p.end d.tally ∙ sym reply-opened in
      ⊎_elim
      (λ (s : Pending 0 p).
      let r = reply-met None s.ready s.left in
      (s.absent ∙ sym (ap (λ (x : Reply). x.refusal) r), s.no_value ∙ sym (ap (λ (x : Reply). x.value) r), o))
      (λ (s : Ended 0 p). (s.refusal, s.value, o))
      d.status
