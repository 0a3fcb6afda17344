-- Invalidating server by server, the lowest first: what holds once the servers below k are done.
-- Assumes nothing.
use Prim.Native.Nat.{ℕ, zero, suc, ◌+◌, ◌-◌, ◌*◌, ◌≤◌, ◌<◌, min}
use mathlib.Core.Path.{◌≡◌, refl, sym, ap, ◌∙◌}
use mathlib.Core.Bool.{Bool, true, false, cond, ◌&&◌}
use mathlib.Core.List.Memᴰ
use mathlib.Core.List.{List, [], ◌++◌, append-nil, Memᴰ}
use native.Mathlib.Nat.{add-zero}
use native.Mathlib.Numerals.{add-one}
use native.Mathlib.Omega.{arith}
use lib.ListN.{length, take, length-append}
use lib.Seq.{take-nil}
use lib.Dec.{leb}
use Rattle.limits.specs.Limits.{max_capacity, max_sum}
use Rattle.lists.specs.Below.{nth, upward}
use Rattle.lists.proofs.Tests.{by_bool}
use Rattle.lists.proofs.Below.{upward-out}
use Rattle.medium.specs.Entry.{server_at, entry_at, mark_at, live, Inside, AllInside}
use Rattle.medium.specs.Burn.{burn_all, marks_on, marks_over, invalidations}
use Rattle.medium.proofs.Places.{server-le, entry_in, entry-above}
use Rattle.medium.proofs.Entries.{SameEntry}
use Rattle.medium.proofs.Burns.{length-burn_all, burn-take, length-invalidations, invalidations-append, invalidations-take-off}
use Rattle.medium.proofs.Marks.{length-marks_on, marks_on-cong}
use Rattle.table.specs.declared.Table.{Table}
use Rattle.table.specs.Parts.{used_of, reads}
use Rattle.invalidation.specs.Marks.{marks_from}

-- servers that lie inside a medium have at most their entries to mark
module _ (capacity count : ℕ) (used : ℕ → ℕ) (m : List ℕ) (id : ℕ) (p : ℕ → Bool) (s : AllInside capacity count used m) where
  pub marks-few : (n : ℕ) → n ≤ count → length (marks_over capacity used m id p n) ≤ max_capacity * n
  unfolding marks_over
  marks-few zero l = omega arith
  marks-few (suc n) l =
      let on : length (cond (p n) (marks_on capacity (used n) m id n) []) ≤ max_capacity = by_bool (p n)
      (λ e. rw e (omega (arith, length-marks_on capacity (used n) m id n, s.fits n l, s.small)))
      (λ e. rw e (omega arith))
      in
      rw length-append (omega (arith, marks-few n (omega arith)))

-- so a write and a delete never burn more than this many marks
pub marks-most : (t : Table) (m : List ℕ) (id from : ℕ) → AllInside t.capacity t.count (used_of t) m → length (marks_from t m id from) ≤ max_sum
marks-most t m id from s = omega (arith, marks-few t.capacity t.count (used_of t) m id (λ k. leb from k && reads t id k) s t.count (omega arith), s.few)

-- the marks of a server lie below the words of the next one
marks-below : (capacity used : ℕ) (m : List ℕ) (id k a : ℕ) → used ≤ capacity → server_at capacity (suc k) ≤ a → Memᴰ a (marks_on capacity used m id k) → ⊥
unfolding marks_on
marks-below capacity used m id k a f l d =
    let i = Memᴰ.of_map (mark_at capacity k) (upward (live capacity used m id k) used) d in
    let o = upward-out (live capacity used m id k) used i.0 i.1 in
    omega (arith, entry_in capacity (suc k) k i.0 2 (omega arith) (omega (arith, o.0)) (omega arith), i.2)

-- the marks over one server more, and over none that passes
module _ (capacity : ℕ) (used : ℕ → ℕ) (m : List ℕ) (id : ℕ) (p : ℕ → Bool) where
  over-next : (k : ℕ) (b : Bool) → p k ≡ b
      → marks_over capacity used m id p (suc k) ≡ marks_over capacity used m id p k ++ cond b (marks_on capacity (used k) m id k) []
  unfolding marks_over
  over-next k b e = rw e

  over_none : (k : ℕ) → ((i : ℕ) → i < k → p i ≡ false) → marks_over capacity used m id p k ≡ []
  unfolding marks_over
  over_none zero h = refl
  over_none (suc k) h = rw (h k (omega arith), over_none k (λ i l. h i (omega arith)))

-- of the medium m₀ as lent the servers below k are done, and there are `count` servers: m is the medium now, n the number of marks
-- so far, of which as many as the burns are burned. The words of the servers from k up are as lent
pub record Done (capacity count : ℕ) (used : ℕ → ℕ) (m₀ : List ℕ) (id : ℕ) (p : ℕ → Bool) (content burns k : ℕ) (m : List ℕ) (n : ℕ) : Type 0 where
  pub words : m ≡ burn_all m₀ (take burns (invalidations content (marks_over capacity used m₀ id p (min k count))))
  pub marks : n ≡ length (marks_over capacity used m₀ id p (min k count))
  pub same : (a : ℕ) → server_at capacity k ≤ a → nth m a ≡ nth m₀ a
  pub long : length m ≡ length m₀

-- no server below k passes: nothing is to be done
pub none_done : (capacity count : ℕ) (used : ℕ → ℕ) (m : List ℕ) (id : ℕ) (p : ℕ → Bool) (content burns k : ℕ) → ((i : ℕ) → i < k → p i ≡ false)
    → Done capacity count used m id p content burns k m 0
unfolding burn_all invalidations
none_done capacity count used m id p content burns k h =
    let e : marks_over capacity used m id p (min k count) ≡ [] = over_none capacity used m id p (min k count) (λ i l. h i (omega arith)) in
    record { words = rw (e, take-nil); marks = rw e; same = λ a l. refl; long = refl }

module _ {capacity count : ℕ} {used : ℕ → ℕ} {m₀ : List ℕ} {id : ℕ} {p : ℕ → Bool} {content burns k : ℕ} {m : List ℕ} {n : ℕ} (r : Done capacity count used m₀ id p content burns k m n) where
  -- the marks below server i, in the medium as lent, and those of the next server
  abbrev over_servers : ℕ → List ℕ
  over_servers i = marks_over capacity used m₀ id p i

  abbrev on_this : List ℕ → List ℕ
  on_this w = marks_on capacity (used k) w id k

  module _ (s : AllInside capacity count used m₀) (l : k < count) where
    -- the next server lies inside the medium
    pub next-inside : Inside capacity k m
    next-inside = record {
      small = s.small;
      few = omega (arith, s.few);
      long = omega (arith, server-le capacity (suc k) count l, s.long, r.long);
    }

    pub next_fits : used k ≤ capacity
    next_fits = s.fits k l

    -- the loop's position is below the number of servers, before and after it
    here : min k count ≡ k
    here = omega arith

    there : min (k + 1) count ≡ suc k
    there = omega arith

    so_far : n ≡ length (over_servers k)
    so_far = rw here at r.marks

    pub next-few : n ≤ max_sum
    next-few = omega (arith, so_far, marks-few capacity count used m₀ id p s k (omega arith), s.few)

    -- it has the entries as lent, and so the marks
    entry_kept : (j : ℕ) → j < used k → SameEntry capacity m m₀ k j
    entry_kept j i = record { id_same = rw add-zero at (word 0); mark_same = word 2 }
      where
        word : (q : ℕ) → nth m (entry_at capacity k j + q) ≡ nth m₀ (entry_at capacity k j + q)
        word q = r.same (entry_at capacity k j + q) (entry-above capacity k j q)

    on_same : on_this m ≡ on_this m₀
    on_same = marks_on-cong capacity (used k) m m₀ id k entry_kept

    lower : (a : ℕ) → server_at capacity (k + 1) ≤ a → server_at capacity k ≤ a
    lower a h = omega (arith, server-le capacity k (k + 1) (omega arith))

    -- it is passed over
    pub next-no : {m' : List ℕ} {n' : ℕ} → p k ≡ false → m' ≡ m → n' ≡ n → Done capacity count used m₀ id p content burns (k + 1) m' n'
    next-no f em en =
        let e : over_servers (min (k + 1) count) ≡ over_servers (min k count) = rw (there, here) (over-next capacity used m₀ id p k false f ∙ append-nil _) in
        record {
          words = em ∙ rw e r.words;
          marks = en ∙ rw e r.marks;
          same = λ a h. ap (λ (x : List ℕ). nth x a) em ∙ r.same a (lower a h);
          long = ap length em ∙ r.long;
        }

    -- it is invalidated
    pub next-yes : {m' : List ℕ} {n' : ℕ} → p k ≡ true
        → m' ≡ burn_all m (take (burns - n) (invalidations content (marks_on capacity (used k) m id k)))
        → n' ≡ n + length (marks_on capacity (used k) m id k)
        → Done capacity count used m₀ id p content burns (k + 1) m' n'
    next-yes f em en =
        let e : over_servers (min (k + 1) count) ≡ over_servers k ++ on_this m = rw (there, on_same) (over-next capacity used m₀ id p k true f) in
        let w : m ≡ burn_all m₀ (take burns (invalidations content (over_servers k))) = rw here at r.words in
        let left : burns - length (invalidations content (over_servers k)) ≡ burns - n = omega (arith, so_far, length-invalidations content (over_servers k)) in
        record {
          words = em ∙ sym (rw (e, invalidations-append, burn-take, left, ← w));
          marks = rw (e, length-append) (omega (arith, so_far));
          same = λ a h.
              ap (λ (x : List ℕ). nth x a) em
              ∙ invalidations-take-off content m (burns - n) (on_this m) a (marks-below capacity (used k) m id k a next_fits (rw (← add-one k) h))
              ∙ r.same a (lower a h);
          long = ap length em ∙ length-burn_all m (take (burns - n) (invalidations content (on_this m))) ∙ r.long;
        }

  -- every server is done
  pub all_done : count ≤ k → (n ≡ length (marks_over capacity used m₀ id p count)) × (m ≡ burn_all m₀ (take burns (invalidations content (marks_over capacity used m₀ id p count))))
  all_done l = let e : min k count ≡ count = omega arith in (rw e at r.marks, rw e at r.words)
