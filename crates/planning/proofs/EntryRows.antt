-- The rows that only a write has, which speak of its server and its entry there.
-- Assumes nothing.
use Prim.Native.Nat.{ℕ, ◌+◌, ◌≤◌, ◌<◌}
use mathlib.Core.Path.{◌≡◌, sym, ◌∙◌}
use mathlib.Core.Bool.{Bool, true, false, not}
use mathlib.Core.List.{List, [], ◌∷◌}
use native.Mathlib.Omega.{arith}
use lib.ListN.{length}
use lib.Dec.{leb, eqb}
use borrow.Author.Tests.{eqb-false}
use Rattle.limits.specs.Limits.{content_range}
use Rattle.medium.specs.Entry.{entry_at, blank_run, AllInside}
use Rattle.medium.proofs.Places.{entry_in}
use Rattle.table.specs.declared.Table.{Table}
use Rattle.table.specs.Parts.{used_of}
use Rattle.replies.specs.Refusal.{◌when◌, first_of}
use Rattle.replies.proofs.Refusals.{first-later}
use Rattle.checks.specs.Ready.{asked_rows}
use Rattle.checks.proofs.Passed.{asked-numbered, asked-tests, asked-ready}
use Rattle.planning.specs.WriteRows.{target, entry_rows, write_rows}
use Rattle.planning.proofs.Passed.{target_is}

-- by the server that was picked
module _ (t : Table) (m : List ℕ) (id k : ℕ) (is : k ≡ target t id) where
  pub entry-full : eqb (used_of t k) t.capacity ≡ true → first_of (entry_rows t m id) ≡ 6
  unfolding entry_rows first_of
  entry-full e = let f : eqb (used_of t (target t id)) t.capacity ≡ true = rw is at e in rw f

  pub entry-tested : (b : Bool) → eqb (used_of t k) t.capacity ≡ false → blank_run m (entry_at t.capacity k (used_of t k)) 3 ≡ b → first_of (entry_rows t m id) ≡ first_of (7 when not b ∷ [])
  unfolding entry_rows first_of
  entry-tested b e f =
      let g : eqb (used_of t (target t id)) t.capacity ≡ false = rw is at e in
      let h : blank_run m (entry_at t.capacity (target t id) (used_of t (target t id))) 3 ≡ b = rw is at f in
      rw (g, h)

-- what a write may take for granted once the tests that it shares accept; k is the server picked
pub record Planned (t : Table) (m : List ℕ) (tenant id value k : ℕ) : Type 0 where
  pub there : k < t.count
  pub entry : used_of t k ≤ t.capacity
  pub inside : AllInside t.capacity t.count (used_of t) m
  pub rest : first_of (write_rows t m tenant id value) ≡ first_of (entry_rows t m id)

pub planned : (t : Table) (m : List ℕ) (tenant id value k : ℕ) → first_of (asked_rows t m tenant id (leb content_range value)) ≡ 0 → k ≡ target t id → Planned t m tenant id value k
unfolding write_rows
planned t m tenant id value k z is =
    let outside = leb content_range value in
    let some = eqb-false t.count 0 (asked-tests t m tenant id outside z).none in
    let below = (target_is t id (omega (arith, some))).below in
    let there : k < t.count = omega arith in
    let inside = (asked-ready t m tenant id outside z).inside in
    record {
      there = there;
      entry = inside.fits k there;
      inside = inside;
      rest = first-later (asked_rows t m tenant id outside) (entry_rows t m id) (asked-numbered t m tenant id outside) z;
    }

-- its server is not full; its entry there begins at a, and b says whether the entry is blank
module _ (t : Table) (m : List ℕ) (tenant id value k : ℕ) (g : Planned t m tenant id value k) (is : k ≡ target t id) (free : eqb (used_of t k) t.capacity ≡ false) {a : ℕ} (at : a ≡ entry_at t.capacity k (used_of t k)) where
  pub words_there : a + 3 ≤ length m
  words_there = let l = entry_in t.capacity t.count k (used_of t k) 2 g.there (omega (arith, g.entry, eqb-false _ _ free)) (omega arith) in omega (arith, g.inside.long)

  pub blank_there : {r : Bool} → r ≡ blank_run m a 3 → r ≡ true → 0 ≡ first_of (write_rows t m tenant id value)
  unfolding first_of
  blank_there e f = sym (g.rest ∙ entry-tested t m id k is true free (sym (rw at at e) ∙ f))

  pub burned_there : {r : Bool} → r ≡ blank_run m a 3 → r ≡ false → 7 ≡ first_of (write_rows t m tenant id value)
  unfolding first_of
  burned_there e f = sym (g.rest ∙ entry-tested t m id k is false free (sym (rw at at e) ∙ f))
