-- The last equations of lookup.
-- Assumes nothing.
use Prim.Native.Nat.{ℕ, ◌+◌, ◌≤◌, ◌<◌}
use mathlib.Core.Path.{◌≡◌, sym, ap, ap₂, ◌∙◌}
use mathlib.Core.List.{List}
use Rattle.std.specs.Prelude.{None, Some}
use native.Mathlib.Omega.{arith}
use lib.ListN.{length}
use Rattle.table.specs.declared.Table.{Table}
use Rattle.replies.specs.declared.Refusal.{Refusal}
use Rattle.replies.specs.Refusal.{first_of}
use Rattle.replies.specs.Reply.{refused, number_of}
use Rattle.replies.proofs.Answers.{reply-refused, reply-done}
use Rattle.search.specs.declared.SearchAnswer.{SearchAnswer}
use Rattle.search.specs.declared.Place.{Place}
use Rattle.search.specs.Search.{search_for, answer_of}
use Rattle.medium.specs.Entry.{entry_at, Inside}
use Rattle.medium.proofs.Places.{entry-inside}
use Rattle.medium.proofs.Entries.{live-used}
use Rattle.table.specs.Parts.{used_of}
use Rattle.table.proofs.Soundness.{sound-facts}
use Rattle.search.proofs.Finding.{each-inside}
use Rattle.search.proofs.Searches.{met_some}
use Rattle.lookup.proofs.Passed.{lookup-accepted}
use Rattle.lookup.specs.Lookup.{lookup_rows, met_reply, lookup_reply}

-- an entry of a server of the table
pub record MetOn (t : Table) (m : List ℕ) (p : Place) : Type 0 where
  pub below : p.server < 256
  pub inside : Inside t.capacity p.server m
  pub fits : used_of t p.server ≤ t.capacity
  pub entry : p.entry < t.capacity

-- what a search that answers this met, and how many servers it opened
module _ (t : Table) (m : List ℕ) (tenant id : ℕ) (z : first_of (lookup_rows t m tenant id) ≡ 0) {a : SearchAnswer} (e : a ≡ answer_of (search_for t m id)) where
  -- what it met, and how many servers it opened
  answered : met_reply t.capacity m a.opened a.met ≡ lookup_reply t m tenant id
  unfolding answer_of lookup_reply
  answered =
      ap₂ (met_reply t.capacity m) (ap (λ (f : SearchAnswer). f.opened) e) (ap (λ (f : SearchAnswer). f.met) e)
      ∙ sym (reply-done (lookup_rows t m tenant id) z _)

  -- lookup met nothing, or this entry
  pub looked-none : a.met ≡ None → refused 8 a.opened ≡ lookup_reply t m tenant id
  unfolding met_reply
  looked-none f = ap (met_reply t.capacity m a.opened) (sym f) ∙ answered

  pub looked-some : (p : Place) → a.met ≡ Some p → met_reply t.capacity m a.opened (Some p) ≡ lookup_reply t m tenant id
  looked-some p f = ap (met_reply t.capacity m a.opened) (sym f) ∙ answered

  -- the entry that it met is one of its server, and the server is one of the table and lies inside the medium
  pub met-place : (p : Place) → a.met ≡ Some p → MetOn t m p
  unfolding answer_of
  met-place p f =
      let a = lookup-accepted t m tenant id z in
      let i = a.inside in
      let g = met_some t m id p (sym (ap (λ (f : SearchAnswer). f.met) e) ∙ f) in
      let u = live-used t.capacity (used_of t p.server) m id p.server p.entry g.is_live in
      record {
        below = omega (arith, g.below, (sound-facts t a.is_sound).few);
        inside = each-inside t.capacity t.count p.server (used_of t) m i g.below;
        fits = i.fits p.server g.below;
        entry = omega (arith, u, i.fits p.server g.below);
      }

-- a lookup that its tests refuse
pub lookup-refused : (t : Table) (m : List ℕ) (tenant id : ℕ) (r : Refusal) → number_of r ≡ first_of (lookup_rows t m tenant id) → refused (number_of r) 0 ≡ lookup_reply t m tenant id
unfolding lookup_reply
lookup-refused t m tenant id r e = reply-refused (lookup_rows t m tenant id) r e _

-- the value word of an entry lies inside the medium
pub value_inside : (capacity server entry : ℕ) (m : List ℕ) → Inside capacity server m → entry < capacity → entry_at capacity server entry + 1 < length m
value_inside capacity server entry m i l = entry-inside capacity server entry 1 m i l (omega arith)
