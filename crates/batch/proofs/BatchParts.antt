-- The parts of all ids of a batch, server by server, and what they come to.
-- Assumes nothing.
use Prim.Native.Nat.{ℕ, suc, ◌+◌, ◌≤◌, ◌<◌}
use mathlib.Core.Path.{◌≡◌, refl, sym, ap, subst, ◌∙◌}
use mathlib.Core.Logic.{◌≢◌}
use mathlib.Core.Bool.{Bool, true, false}
use mathlib.Core.List.{List}
use native.Mathlib.Omega.{arith}
use lib.ListN.{length, replicate, take, length-replicate}
use Rattle.std.specs.Prelude.{Ok, All}
use Rattle.std.proofs.lemmas.List.{get_or-take}
use Rattle.std.proofs.lemmas.List.Elements.{All-from_get_or}
use lib.Seq.{sets}
use lib.Dec.{eqb, ltb}
use borrow.Author.Tests.{eqb-true, eqb-false, lt-ltb, le-ltb, ltb-true, ltb-false}
use Rattle.lists.specs.Below.{nth, some_below, count_below}
use Rattle.lists.proofs.Tests.{by_bool}
use Rattle.lists.proofs.Below.{length-set_below, set_below-at, set_below-above, some_below-none, some_below-cong, count_below-none, count_below-le, nth-zeros}
use Rattle.table.specs.declared.Table.{Table}
use Rattle.table.specs.Sound.{sound}
use Rattle.table.specs.Parts.{shape_of, used_of, read_p}
use Rattle.replies.specs.Refusal.{first_of, settle}
use Rattle.replies.proofs.Refusals.{settle-yes, settle-no}
use Rattle.checks.specs.Ready.{ready_rows}
use Rattle.lookup.specs.Lookup.{lookup_reply}
use Rattle.checks.proofs.Passed.{Ready, ready-accepted}
use Rattle.batch_answer.specs.Answer.{BatchReply, mounts, order, filled, batch_by, too_long, refused_batch, settled_batch}
use Rattle.batch_answer.specs.Ends.{Ends}
use Rattle.replies.specs.declared.LookupAnswer.{LookupAnswer}
use Rattle.batch_begin.specs.declared.Parts.{Parts}
use Rattle.batch_begin.specs.Begin.{Columns, columns_of, first_refusal, first_parts}
use Rattle.batch.specs.Batch.{lookup_opens, opened_at, batch_rows, long_number, batch_reply}
use Rattle.batch_steps.specs.Steps.{Progress, progress_at, with_parts, stepped_at, stepped_all}
use Rattle.batch_steps.proofs.Stepping.{opened-read}
use Rattle.batch_answer.proofs.EndsFront.{length-front, front-some, front-ends}
use Rattle.batch_answer.proofs.Filled.{filled_is}
use Rattle.batch_answer.proofs.Orders.{mounts-few, order-none}
use Rattle.batch_answer.proofs.Tally.{tally-nowhere, tally-end, tally-low}
use Rattle.batch.proofs.Batches.{DoneFrom, Stepped, first_done, step, all_done, refused-opens}

same-batch : {a b : ℕ} {r s v w o p x y : List ℕ} → a ≡ b → r ≡ s → v ≡ w → o ≡ p → x ≡ y
    → ◌≡◌ {A = BatchReply} (record { refusal = 0; mounts = a; refusals = r; values = v; opened = o; order = x })
    (record { refusal = 0; mounts = b; refusals = s; values = w; opened = p; order = y })
same-batch e f g h i = rw (e, f, g, h, i)

-- a list of up to 256 ids is answered
pub batch-accepted : (t : Table) (ids : List ℕ) → length ids ≤ 256 → first_of (batch_rows t ids) ≡ 0
unfolding batch_rows too_long first_of
batch-accepted t ids h = rw (le-ltb 256 (length ids) h)

-- a longer one is not
pub batch-refused : (t : Table) (m : List ℕ) (tenant : ℕ) (ids : List ℕ) → 256 < length ids → refused_batch (long_number t) ≡ batch_reply t m tenant ids
unfolding batch_reply settled_batch batch_rows too_long first_of settle long_number
batch-refused t m tenant ids h = rw (lt-ltb 256 (length ids) h) (by_bool (sound t) (λ e. rw e) (λ e. rw e))

module _ (t : Table) (m : List ℕ) (tenant : ℕ) (ids : List ℕ) where
  abbrev n : ℕ
  n = length ids

  -- the servers from k on are done for every id, and nothing stands after the ids
  pub record PartsFrom (k : ℕ) (parts : Columns) : Type 0 where
    pub part : (i : ℕ) → i < n → DoneFrom t m tenant (nth ids i) k (progress_at parts i)
    pub rest : (i : ℕ) → n ≤ i → (nth parts.refusals i ≡ 0) × (nth parts.values i ≡ 0) × (nth parts.opened i ≡ 0)
    pub few : n ≤ 256
    pub long : (length parts.refusals ≡ 256) × (length parts.values ≡ 256) × (length parts.opened ≡ 256) × (length parts.ends ≡ 256)

  first-parts : n ≤ 256 → PartsFrom (settle (ready_rows t m false false) t.count 0) (first_parts (first_of (ready_rows t m false false)) tenant ids n)
  unfolding first_parts filled
  first-parts few = record {
    few = few;
    part = λ i l.
        rw (set_below-at (λ j. first_refusal (first_of (ready_rows t m false false)) tenant (nth ids j)) n (replicate 256 0) (rw length-replicate few) i l, nth-zeros 256 i)
        (first_done t m tenant (nth ids i));
    rest = λ i l. (set_below-above _ n (replicate 256 0) i l ∙ nth-zeros 256 i, nth-zeros 256 i, nth-zeros 256 i);
    long = (length-set_below _ n (replicate 256 0) ∙ zeros, zeros, zeros, zeros);
  }
    where
      zeros : length (replicate {A = ℕ} 256 0) ≡ 256
      zeros = length-replicate {A = ℕ} 256 0

  -- server k is next
  module _ (k : ℕ) (l : k < t.count) (parts : Columns) (done : PartsFrom (suc k) parts) where
    abbrev next_parts : Columns
    next_parts = stepped_all (read_p t k) (shape_of t) (used_of t k) m ids k parts

    abbrev part_at : ℕ → Progress
    part_at i = stepped_at (read_p t k) (shape_of t) (used_of t k) m ids k parts i

    next-at : (i : ℕ) → i < n → progress_at next_parts i ≡ part_at i
    unfolding stepped_all with_parts
    next-at i b =
        let r = set_below-at (λ j. (part_at j).refusal) n parts.refusals (omega (arith, done.few, done.long)) i b in
        let v = set_below-at (λ j. (part_at j).value) n parts.values (omega (arith, done.few, done.long)) i b in
        let o = set_below-at (λ j. (part_at j).opened) n parts.opened (omega (arith, done.few, done.long)) i b in
        let e = set_below-at (λ j. (part_at j).end) n parts.ends (omega (arith, done.few, done.long)) i b in
        rw (r, v, o, e)

    step-at : (i : ℕ) (b : i < n) → Stepped t m tenant (nth ids i) k l (part_at i)
    unfolding stepped_at
    step-at i b = step t m tenant (nth ids i) k l (progress_at parts i) (done.part i b)

    -- it is opened for one of the ids
    next-mounted : some_below (λ i. eqb (nth next_parts.ends i) (suc k)) n ≡ some_below (λ i. opened_at t m tenant ids i k) n
    unfolding opened_at
    next-mounted = some_below-cong _ _ n (λ i b. ap (λ (p : Progress). eqb p.end (suc k)) (next-at i b) ∙ (step-at i b).opened)

    next-parts : PartsFrom k next_parts
    unfolding stepped_all with_parts
    next-parts = record {
      few = done.few;
      part = λ i b. subst (DoneFrom t m tenant (nth ids i) k) (sym (next-at i b)) (step-at i b).done;
      rest = λ i b.
          let z = done.rest i b in (
            set_below-above _ n parts.refusals i b ∙ z.0,
            set_below-above _ n parts.values i b ∙ z.1,
            set_below-above _ n parts.opened i b ∙ z.2,
          );
      long = (
        length-set_below _ n parts.refusals ∙ done.long.0,
        length-set_below _ n parts.values ∙ done.long.1,
        length-set_below _ n parts.opened ∙ done.long.2,
        length-set_below _ n parts.ends ∙ done.long.3,
      );
    }

  -- the numbers of the ids alone
  abbrev front : List ℕ → List ℕ
  front ends = take n ends

  front-long : {k : ℕ} (parts : Columns) → PartsFrom k parts → n ≤ length parts.ends
  front-long parts d = omega (arith, d.few, d.long.3)

  -- a single lookup opens no more servers than there may be
  opens-few : (id : ℕ) → count_below (lookup_opens t m tenant id) t.count ≤ 256
  opens-few id = by_bool (eqb (first_of (ready_rows t m false false)) 0)
      (λ e. omega (arith, (ready-accepted t m false false (eqb-true _ 0 e)).inside.few, count_below-le (lookup_opens t m tenant id) t.count))
      (λ e. omega (arith, count_below-none (lookup_opens t m tenant id) t.count (λ k b. refused-opens t m tenant id (eqb-false _ 0 e) k)))

  -- and no id has had more opened
  pub opened-few : (k : ℕ) (parts : Columns) → PartsFrom k parts → (i : ℕ) → nth parts.opened i ≤ 256
  opened-few k parts d i = by_bool (ltb i n)
      (λ e. omega (arith, (d.part i (ltb-true i n e)).tally.counted, opens-few (nth ids i)))
      (λ e. omega (arith, (d.rest i (ltb-false i n e)).2))

  pub answers-few : (k : ℕ) (parts : Parts LookupAnswer) → PartsFrom k (columns_of parts) → All (λ (a : LookupAnswer). a.opened < 4294967296) parts.answers
  answers-few k parts d = All-from_get_or (λ (a : LookupAnswer). a.opened < 4294967296) parts.answers (record { value = Ok 0; opened = 0 })
      (λ i l. omega (arith, opened-read parts i, opened-few k (columns_of parts) d i))

  -- all servers are done: the arrays are those of the single lookups
  module _ (parts : Columns) (done : PartsFrom 0 parts) where
    single : (i : ℕ) (b : i < n)
        → (nth parts.refusals i ≡ (lookup_reply t m tenant (nth ids i)).refusal)
        × (nth parts.values i ≡ (lookup_reply t m tenant (nth ids i)).value)
        × (nth parts.opened i ≡ (lookup_reply t m tenant (nth ids i)).opened)
    single i b = all_done t m tenant (nth ids i) (progress_at parts i) (done.part i b)

    last-refusals : parts.refusals ≡ filled (λ i. (lookup_reply t m tenant (nth ids i)).refusal) n
    last-refusals = filled_is _ n done.few parts.refusals done.long.0 (λ i b. (single i b).0) (λ i b. (done.rest i b).0)

    last-values : parts.values ≡ filled (λ i. (lookup_reply t m tenant (nth ids i)).value) n
    last-values = filled_is _ n done.few parts.values done.long.1 (λ i b. (single i b).1) (λ i b. (done.rest i b).1)

    last-opened : parts.opened ≡ filled (λ i. (lookup_reply t m tenant (nth ids i)).opened) n
    last-opened = filled_is _ n done.few parts.opened done.long.2 (λ i b. (single i b).2) (λ i b. (done.rest i b).2)

    last-ends : Ends (opened_at t m tenant ids) n t.count parts.ends
    unfolding opened_at
    last-ends = record {
      nowhere = λ i b. tally-nowhere (lookup_opens t m tenant (nth ids i)) t.count _ _ (done.part i b).tally;
      server = λ i k b c. tally-end (lookup_opens t m tenant (nth ids i)) t.count _ _ (done.part i b).tally k c;
    }

  -- where the tests refuse an id in range that is the caller's own they refuse every id, and no server is opened for any
  none-opened : first_of (ready_rows t m false false) ≢ 0 → (i k : ℕ) → opened_at t m tenant ids i k ≡ false
  unfolding opened_at
  none-opened z i k = refused-opens t m tenant (nth ids i) z k

  -- the servers that the code goes through: all, or none where no id comes to a search; either way nothing differs
  abbrev pub servers : ℕ
  servers = settle (ready_rows t m false false) t.count 0

  servers-cases : (P : ℕ → Type 0) → P t.count → (((i k : ℕ) → opened_at t m tenant ids i k ≡ false) → P 0) → P servers
  servers-cases P all none = by_bool (eqb (first_of (ready_rows t m false false)) 0)
      (λ e. subst P (sym (settle-yes (ready_rows t m false false) t.count 0 (eqb-true (first_of (ready_rows t m false false)) 0 e))) all)
      (λ e.
      let z = eqb-false (first_of (ready_rows t m false false)) 0 e in
      subst P (sym (settle-no (ready_rows t m false false) t.count 0 z)) (none (none-opened z)))

  servers-mounts : count_below (λ k. some_below (λ i. opened_at t m tenant ids i k) n) servers ≡ mounts (opened_at t m tenant ids) n t.count
  unfolding mounts count_below
  servers-mounts = servers-cases (λ (c : ℕ). count_below (λ k. some_below (λ i. opened_at t m tenant ids i k) n) c ≡ count_below (λ k. some_below (λ i. opened_at t m tenant ids i k) n) t.count)
      refl
      (λ h. sym (count_below-none _ t.count (λ k b. some_below-none _ n (λ i c. h i k))))

  servers-order : order (opened_at t m tenant ids) n servers ≡ order (opened_at t m tenant ids) n t.count
  servers-order = servers-cases (λ (c : ℕ). order (opened_at t m tenant ids) n c ≡ order (opened_at t m tenant ids) n t.count)
      refl
      (λ h. order-none (opened_at t m tenant ids) n h 0 ∙ sym (order-none (opened_at t m tenant ids) n h t.count))

  module _ (parts : Columns) (done : PartsFrom 0 parts) where
    servers-ends : Ends (opened_at t m tenant ids) n servers parts.ends
    unfolding some_below
    servers-ends = servers-cases (λ (c : ℕ). Ends (opened_at t m tenant ids) n c parts.ends)
        (last-ends parts done)
        (λ h. record {
          nowhere = λ i b. (last-ends parts done).nowhere i b ∙ rw (some_below-none (opened_at t m tenant ids i) t.count (λ k c. h i k));
          server = λ i k b c. absurd (omega arith);
        })

    servers-low : (i : ℕ) → i < n → nth parts.ends i ≤ servers
    servers-low i b = servers-cases (λ (c : ℕ). nth parts.ends i ≤ c)
        (tally-low (lookup_opens t m tenant (nth ids i)) t.count _ _ (done.part i b).tally)
        (λ h.
        let e : eqb (nth parts.ends i) 0 ≡ true = (last-ends parts done).nowhere i b ∙ rw (some_below-none (opened_at t m tenant ids i) t.count (λ k c. h i k)) in
        omega (arith, eqb-true (nth parts.ends i) 0 e))

  servers-few : servers ≤ 256
  servers-few = by_bool (eqb (first_of (ready_rows t m false false)) 0)
      (λ e.
      let z = eqb-true (first_of (ready_rows t m false false)) 0 e in
      omega (arith, settle-yes (ready_rows t m false false) t.count 0 z, (ready-accepted t m false false z).inside.few))
      (λ e. omega (arith, settle-no (ready_rows t m false false) t.count 0 (eqb-false (first_of (ready_rows t m false false)) 0 e)))

  -- a batch that has the servers from k on behind it, and has opened `mounted` of them
  pub record BatchFrom (k : ℕ) (parts : Columns) (mounted : ℕ) : Type 0 where
    pub done : PartsFrom k parts
    pub below : k ≤ servers
    pub counted : mounted + count_below (λ j. some_below (λ i. opened_at t m tenant ids i j) n) k ≡ mounts (opened_at t m tenant ids) n t.count

  pub batch-start : n ≤ 256 → (number s : ℕ) → number ≡ first_of (ready_rows t m false false) → s ≡ servers
      → (parts : Columns) → parts ≡ first_parts number tenant ids n → BatchFrom s parts 0
  batch-start few number s a b parts e = rw (e, a, b) (record { done = first-parts few; below = omega arith; counted = omega (arith, servers-mounts) })

  -- no more servers are opened than there are
  pub mounted-few : (k : ℕ) (parts : Columns) (mounted : ℕ) → BatchFrom k parts mounted → mounted ≤ t.count
  mounted-few k parts mounted from = omega (arith, from.counted, mounts-few (opened_at t m tenant ids) n t.count)

  -- a server that is still to come is there, and so are all
  pub ready-there : (k : ℕ) → k < servers → (k < t.count) × Ready t m
  ready-there k l = by_bool (eqb (first_of (ready_rows t m false false)) 0)
      (λ e.
      let z = eqb-true (first_of (ready_rows t m false false)) 0 e in
      (omega (arith, settle-yes (ready_rows t m false false) t.count 0 z), ready-accepted t m false false z))
      (λ e. absurd (omega (arith, settle-no (ready_rows t m false false) t.count 0 (eqb-false (first_of (ready_rows t m false false)) 0 e))))

  -- server k is next: r is what the code's test says, whether it is opened
  module _ (k : ℕ) (parts : Columns) (mounted : ℕ) (from : BatchFrom (suc k) parts mounted)
      (next : Columns) (e : next ≡ stepped_all (read_p t k) (shape_of t) (used_of t k) m ids k parts)
      (x : ℕ) (a : x ≡ suc k) {r : Bool} (h : r ≡ some_below (λ i. eqb (nth (front next.ends) i) x) (length (front next.ends))) where
    there : k < t.count
    there = (ready-there k (omega (arith, from.below))).0

    after : PartsFrom k next
    after = rw e (next-parts k there parts from.done)

    opened-as : (b : Bool) → r ≡ b → some_below (λ i. opened_at t m tenant ids i k) n ≡ b
    opened-as b q =
        let told : r ≡ some_below (λ i. eqb (nth next.ends i) x) n = h ∙ front-some next.ends n (front-long next after) x in
        sym (next-mounted k there parts from.done) ∙ sym (rw (e, a) at told) ∙ q

    pub batch-opened : r ≡ true → BatchFrom k next (mounted + 1)
    unfolding count_below
    batch-opened q =
        let c : mounted + (1 + count_below (λ j. some_below (λ i. opened_at t m tenant ids i j) n) k) ≡ mounts (opened_at t m tenant ids) n t.count =
        rw (opened-as true q) at from.counted in
        record { done = after; below = omega (arith, from.below); counted = omega (arith, c) }

    pub batch-closed : r ≡ false → BatchFrom k next mounted
    unfolding count_below
    batch-closed q =
        let c : mounted + (0 + count_below (λ j. some_below (λ i. opened_at t m tenant ids i j) n) k) ≡ mounts (opened_at t m tenant ids) n t.count =
        rw (opened-as false q) at from.counted in
        record { done = after; below = omega (arith, from.below); counted = omega (arith, c) }

  -- all servers are behind it; s is how many the code goes through
  module _ (parts : Columns) (mounted : ℕ) (from : BatchFrom 0 parts mounted) (s : ℕ) (b : s ≡ servers) where
    front-is : length (front parts.ends) ≡ n
    front-is = length-front parts.ends n (front-long parts from.done)

    pub ends-given : (length (front parts.ends) ≤ 256) × (s ≤ 256) × ((i : ℕ) → i < length (front parts.ends) → nth (front parts.ends) i ≤ s)
    ends-given = rw (b, front-is) (from.done.few, servers-few, λ i l. rw (get_or-take n parts.ends i 0 l) (servers-low parts from.done i l))

    pub batch-done : (places : List ℕ)
        → ((opened : ℕ → ℕ → Bool) → Ends opened (length (front parts.ends)) s (front parts.ends) → places ≡ sets (replicate 256 0) 0 (order opened (length (front parts.ends)) s))
        → record { refusal = 0; mounts = mounted; refusals = parts.refusals; values = parts.values; opened = parts.opened; order = places } ≡ batch_reply t m tenant ids
    unfolding batch_reply settled_batch batch_by count_below
    batch-done places h =
        let d = from.done in
        let e : places ≡ sets (replicate 256 0) 0 (order (opened_at t m tenant ids) n servers) = (rw (b, front-is) at h) (opened_at t m tenant ids) (front-ends parts.ends n (front-long parts d) _ _ (servers-ends parts d)) in
        same-batch (omega (arith, from.counted)) (last-refusals parts d) (last-values parts d) (last-opened parts d)
        (e ∙ ap (sets (replicate 256 0) 0) servers-order)
        ∙ sym (settle-yes (batch_rows t ids) _ _ (batch-accepted t ids d.few))
