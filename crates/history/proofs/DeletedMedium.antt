-- The medium after the burns of a delete, some or all, and with any word under the beam. Plain numbers and lists.
-- Assumes nothing.
use Prim.Native.Nat.{ℕ, ◌<◌}
use mathlib.Core.Path.{◌≡◌, refl, sym, ◌∙◌, subst}
use mathlib.Core.Logic.{◌≢◌, ◌⊎◌, inl, inr, ⊎_elim}
use mathlib.Core.Bool.{Bool, true, ◌&&◌, not}
use mathlib.Core.List.{List, ◌∷◌}
use Rattle.std.specs.Prelude.{Some}
use native.Mathlib.Omega.{arith}
use lib.ListN.{length}
use lib.Dec.{eqb}
use borrow.Author.Tests.{eqb-true, eqb-false}
use Rattle.limits.specs.Limits.{content_range}
use Rattle.lists.proofs.Tests.{by_bool, iff-eq, except}
use Rattle.medium.specs.Word.{deleted}
use Rattle.medium.specs.Entry.{entry_words, entry_at, bears}
use Rattle.medium.specs.Burn.{Burn, burn_all, marks_over, invalidations}
use Rattle.search.specs.declared.Place.{Place}
use Rattle.history.specs.Beam.{Beam, dark}
use Rattle.history.specs.Ledger.{Event, removed, used_by}
use Rattle.history.proofs.Strikes.{struck, strike-whole}
use Rattle.history.proofs.Tops.{Top, TopAt, top-cong}
use Rattle.history.proofs.Events.{place_of, EachWrite, each_on, removed-no-write, removed-self, removed-other}
use Rattle.history.proofs.Holds.{InEntry, Holds, once-written, once-filled}
use Rattle.history.proofs.MarkedMedium.{Gone, Invalidated, invalidated, all-gone}

-- the burns: the marks of every entry of the id on readable servers
abbrev pub burns_of : ℕ → ℕ → (ℕ → ℕ → Bool) → List Event → List ℕ → ℕ → List Burn
burns_of capacity count rule events m id = invalidations deleted (marks_over capacity (used_by events) m id (rule id) count)

module _ {capacity count : ℕ} {rule : ℕ → ℕ → Bool} {events : List Event} {m : List ℕ} (H : Holds capacity count rule events m) {id : ℕ} (small : id < content_range)
    {N : List ℕ} (G : Invalidated capacity count events m id (rule id) m N) where
  others-kept : (a : ℕ) → a < content_range → a ≢ id → TopAt (bears capacity N a) count capacity (place_of events a)
  others-kept a n f = top-cong (bears capacity m a) (bears capacity N a) count capacity
      (λ k j l i. iff-eq _ _ (G.less a k j i) (G.others a k j l i f))
      (place_of events a) (H.tops a n)

  -- no entry more is used
  same-used : (later : List Event) → ((k : ℕ) → used_by later k ≡ used_by events k)
      → EachWrite later (λ newer older a v k. InEntry capacity m a v k (used_by older k))
      → ((a : ℕ) → a < content_range → TopAt (bears capacity N a) count capacity (place_of later a))
      → Holds capacity count rule later N
  same-used later used written tops = record {
    long = omega (arith, H.long, G.long);
    rest = λ a l i. G.rest a l ∙ H.rest a l (omega (arith, G.long));
    free = λ k j q l u i b. G.free k j q (omega (arith, used k)) i b ∙ H.free k j q l (omega (arith, used k)) i b;
    fits = λ k. omega (arith, used k, H.fits k);
    filled = λ k j l u. once-filled m N G.once (entry_at capacity k j) entry_words (H.filled k j l (omega (arith, used k)));
    none_above = λ k l. used k ∙ H.none_above k l;
    written = λ newer older a v k e. once-written m N G.once (written newer older a v k e);
    opens = λ a k j n l i b. H.opens a k j n l i (G.less a k j i b);
    tops = tops;
  }

  -- with all of them burned the delete has happened
  none_left : Gone capacity count m id (rule id) N → (k j : ℕ) → k < count → j < capacity → bears capacity N id k j ≡ true → ⊥
  none_left g k j l i b = let o = G.less id k j i b in g k j l i (H.opens id k j small l i o) o b

  happened : Gone capacity count m id (rule id) N → Holds capacity count rule (removed id ∷ events) N
  unfolding used_by TopAt
  happened g = same-used (removed id ∷ events) (λ k. refl) (each_on _ (removed-no-write id) H.written) (λ a n. by_bool (eqb a id)
      (λ d. rw (eqb-true a id d, removed-self id events) (record { off = none_left g }))
      (λ d. rw (removed-other id a events (eqb-false a id d)) (others-kept a n (eqb-false a id d))))

  -- and what bears an id afterwards
  borne-then : Gone capacity count m id (rule id) N → (a k j : ℕ) → k < count → j < capacity → bears capacity N a k j ≡ bears capacity m a k j && not (eqb id a)
  borne-then g a k j l i = except (bears capacity N a k j) (bears capacity m a k j) (eqb id a)
      (λ d b. none_left g k j l i (subst (λ (z : ℕ). bears capacity N z k j ≡ true) (sym (eqb-true id a d)) b))
      (G.less a k j i)
      (λ d b. G.others a k j l i (λ e. eqb-false id a d (sym e)) b)

  -- with some of them burned it has happened, or nothing has
  outcome : (y : Place) → place_of events id ≡ Some y → Top (bears capacity m id) count capacity y
      → Holds capacity count rule (removed id ∷ events) N ⊎ Holds capacity count rule events N
  unfolding TopAt
  outcome y is top = ⊎_elim
      (λ on. inr (same-used events (λ k. refl) H.written (λ a n. by_bool (eqb a id)
      (λ d. rw (eqb-true a id d, is) (record { low = top.low; inside = top.inside; on = on; above = λ k j l i b. top.above k j l i (G.less id k j i b) }))
      (λ d. others-kept a n (eqb-false a id d)))))
      (λ g. inl (happened g))
      (G.order y top (H.opens id y.server y.entry small top.low top.inside top.on))

module _ {capacity count : ℕ} {rule : ℕ → ℕ → Bool} {events : List Event} {m : List ℕ} (H : Holds capacity count rule events m) (id : ℕ) (small : id < content_range) where
  abbrev burns : List Burn
  burns = burns_of capacity count rule events m id

  marked : (n : ℕ) (beam : Beam) → Invalidated capacity count events m id (rule id) m (struck m burns n beam)
  marked n beam = invalidated H id small (rule id) m refl (λ k j q l u b. refl) deleted (omega arith) n beam

  -- a crash after any number of burns, where the id is there
  pub crash-leaves : (y : Place) → place_of events id ≡ Some y → (n : ℕ) (beam : Beam)
      → Holds capacity count rule (removed id ∷ events) (struck m burns n beam) ⊎ Holds capacity count rule events (struck m burns n beam)
  unfolding TopAt
  crash-leaves y is n beam = outcome H small (marked n beam) y is (rw is at (H.tops id small))

  -- the whole delete
  abbrev N : List ℕ
  N = burn_all m (burns_of capacity count rule events m id)

  whole_is : struck m burns (length burns) dark ≡ N
  whole_is = strike-whole m burns

  whole-marked : Invalidated capacity count events m id (rule id) m N
  whole-marked = rw whole_is at (marked (length burns) dark)

  whole-gone : Gone capacity count m id (rule id) N
  whole-gone = rw whole_is at (all-gone H id small (rule id) m refl (λ k j q l u b. refl) deleted (omega arith) (length burns) dark (omega arith))

  pub delete-holds : Holds capacity count rule (removed id ∷ events) N
  delete-holds = happened H small whole-marked whole-gone

  pub borne : (a k j : ℕ) → k < count → j < capacity → bears capacity N a k j ≡ bears capacity m a k j && not (eqb id a)
  borne = borne-then H small whole-marked whole-gone
