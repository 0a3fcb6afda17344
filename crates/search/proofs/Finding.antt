-- The running search step by step: the answer as what is left to search gives it, and no step changes it.
-- Assumes nothing.
use Prim.Native.Nat.{ℕ, zero, suc, ◌+◌, ◌-◌, ◌≤◌, ◌<◌}
use mathlib.Core.Path.{◌≡◌, refl, sym, ap, ◌∙◌}
use mathlib.Core.Bool.{Bool, true, false, cond}
use mathlib.Core.List.{List}
use Rattle.std.specs.Prelude.{Option, None, Some}
use native.Mathlib.Numerals.{sub-one}
use native.Mathlib.Omega.{arith}
use lib.ListN.{length}
use Rattle.lists.specs.Below.{highest}
use Rattle.lists.proofs.Below.{highest-last}
use Rattle.draws.specs.Draw.{modulus, draw_of}
use Rattle.placement.specs.Fraction.{exceeds}
use Rattle.placement.specs.Rule.{readable, takes}
use Rattle.medium.specs.Entry.{entry_at, bears_at, live, Inside, AllInside}
use Rattle.medium.proofs.Places.{server-le}
use Rattle.medium.proofs.Entries.{live_below}
use Rattle.table.specs.declared.Table.{Table}
use Rattle.table.specs.Parts.{used_of, read_p, reads}
use Rattle.search.specs.declared.SearchAnswer.{SearchAnswer}
use Rattle.search.specs.Search.{Search, last_live, opening, search_below, search_for, answer_of}

-- each server lies inside the medium if all do
pub each-inside : (capacity count k : ℕ) (used : ℕ → ℕ) (m : List ℕ) → AllInside capacity count used m → k < count → Inside capacity k m
each-inside capacity count k used m a l = record {
  small = a.small;
  few = omega arith;
  long = omega (arith, server-le capacity (suc k) count l);
}

-- the search of one server k: what its highest entry left says; r is what a test of it answers, and it begins at a
module _ (capacity used : ℕ) (m : List ℕ) (id k j : ℕ) (l : 0 < j) (u : j ≤ used) {a : ℕ} (place : a ≡ entry_at capacity k (j - 1)) {r : Bool} (e : r ≡ bears_at m id a) where
  live_here : live capacity used m id k (j - 1) ≡ r
  live_here = live_below capacity used m id k (j - 1) (omega arith) ∙ sym (e ∙ ap (bears_at m id) place)

  pub newest-skipped : r ≡ false → highest (live capacity used m id k) j ≡ highest (live capacity used m id k) (j - 1)
  newest-skipped d = highest-last (live capacity used m id k) j false l (live_here ∙ d)

  pub newest-here : r ≡ true → highest (live capacity used m id k) j ≡ Some (j - 1)
  newest-here d = highest-last (live capacity used m id k) j true l (live_here ∙ d)

-- the answer of a search, with this many servers opened before it
after : ℕ → Search → SearchAnswer
after opened s = record { met = s.met; opened = opened + length s.opened }

-- the answer where server k is met at entry j, with this many servers opened
abbrev pub met-at : ℕ → ℕ → ℕ → SearchAnswer
met-at k j opened = record { met = Some (record { server = k; entry = j }); opened = opened }

-- the same where server k is the last of those: an entry met there, or else the search of the servers below it
within : ℕ → ℕ → Option ℕ → Search → SearchAnswer
within opened k None below = after opened below
within opened k (Some j) below = met-at k j opened

after-opening : (opened k : ℕ) (o : Option ℕ) (s : Search) → after opened (opening k o s) ≡ within (opened + 1) k o s
unfolding after within opening
after-opening opened k None s = ap (λ (n : ℕ). record { met = s.met; opened = n }) (omega arith)
after-opening opened k (Some j) s = ap (met-at k j) (omega arith)

module _ (t : Table) (m : List ℕ) (id : ℕ) where
  search-last : (k : ℕ) (b : Bool) → 0 < k → reads t id (k - 1) ≡ b
      → search_below t m id k ≡ cond b (opening (k - 1) (last_live t m id (k - 1)) (search_below t m id (k - 1))) (search_below t m id (k - 1))
  unfolding search_below
  search-last zero b l e = absurd (omega arith)
  search-last (suc k) b l e = let d : reads t id k ≡ b = rw sub-one at e in rw (sub-one, d)

  -- the servers below k are left
  pub servers_left : ℕ → ℕ → SearchAnswer
  servers_left opened k = after opened (search_below t m id k)

  -- besides those, the entries below j of server k
  pub entries_left : ℕ → ℕ → ℕ → SearchAnswer
  entries_left opened k j = within opened k (highest (live t.capacity (used_of t k) m id k) j) (search_below t m id k)

  pub all_left : answer_of (search_for t m id) ≡ servers_left 0 t.count
  unfolding answer_of search_for servers_left after
  all_left = ap (λ (n : ℕ). record { met = (search_below t m id t.count).met; opened = n }) (omega arith)

  -- the highest server left; r is what the code's test of it answers
  module _ (opened k : ℕ) (l : 0 < k) {r : Bool} (e : r ≡ exceeds modulus (read_p t (k - 1)) (draw_of t.salt id (k - 1))) where
    pub server-skipped : r ≡ false → servers_left opened k ≡ servers_left opened (k - 1)
    unfolding servers_left readable takes
    server-skipped d = ap (after opened) (search-last k false l (sym e ∙ d))

    opened-there : r ≡ true → servers_left opened k ≡ within (opened + 1) (k - 1) (last_live t m id (k - 1)) (search_below t m id (k - 1))
    unfolding servers_left readable takes
    opened-there d = ap (after opened) (search-last k true l (sym e ∙ d)) ∙ after-opening opened (k - 1) (last_live t m id (k - 1)) (search_below t m id (k - 1))

    pub server-opened : r ≡ true → servers_left opened k ≡ entries_left (opened + 1) (k - 1) (used_of t (k - 1))
    unfolding entries_left last_live
    server-opened d = opened-there d

    -- what its search finds: o
    module _ (d : r ≡ true) {o : Option ℕ} (n : o ≡ highest (live t.capacity (used_of t (k - 1)) m id (k - 1)) (used_of t (k - 1))) where
      pub server-met : (j : ℕ) → o ≡ Some j → servers_left opened k ≡ met-at (k - 1) j (opened + 1)
      unfolding last_live within
      server-met j f = opened-there d ∙ rw (← n, f)

      pub server-missed : o ≡ None → servers_left opened k ≡ servers_left (opened + 1) (k - 1)
      unfolding last_live within servers_left
      server-missed f = opened-there d ∙ rw (← n, f)

  -- entries that hold no live one are passed over
  pub entries-passed : (opened k j i : ℕ) → highest (live t.capacity (used_of t k) m id k) j ≡ highest (live t.capacity (used_of t k) m id k) i
      → entries_left opened k j ≡ entries_left opened k i
  unfolding entries_left
  entries-passed opened k j i e = rw e

  -- the highest entry left, likewise; it is one of the used ones and begins at a
  module _ (opened k j : ℕ) (l : 0 < j) (u : j ≤ used_of t k) {a : ℕ} (place : a ≡ entry_at t.capacity k (j - 1)) {r : Bool} (e : r ≡ bears_at m id a) where
    pub entry-skipped : r ≡ false → entries_left opened k j ≡ entries_left opened k (j - 1)
    unfolding entries_left
    entry-skipped d = rw (newest-skipped t.capacity (used_of t k) m id k j l u place e d)

    pub entry-met : r ≡ true → entries_left opened k j ≡ met-at k (j - 1) opened
    unfolding entries_left within
    entry-met d = rw (newest-here t.capacity (used_of t k) m id k j l u place e d)

  pub no-entry-left : (opened k : ℕ) → entries_left opened k 0 ≡ servers_left opened k
  unfolding entries_left servers_left within highest
  no-entry-left opened k = refl

  pub no-server-left : (opened : ℕ) → servers_left opened 0 ≡ record { met = None; opened = opened }
  unfolding servers_left after search_below
  no-server-left opened = ap (λ (n : ℕ). record { met = None; opened = n }) (omega arith)
