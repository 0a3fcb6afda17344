-- What a search meets and which servers it opens, as `Met`, `NoneMet` and `Opened` say.
-- Assumes nothing.
use Prim.Native.Nat.{ℕ, zero, suc, ◌≤◌, ◌<◌}
use mathlib.Core.Path.{◌≡◌, refl, sym, ap, ◌∙◌, subst}
use mathlib.Core.Bool.{Bool, true, false, cond, ◌&&◌, and-false}
use mathlib.Core.List.{List, [], ◌∷◌, ◌++◌}
use Rattle.std.specs.Prelude.{Option, None, Some}
use native.Mathlib.Omega.{arith}
use lib.ListN.{length}
use lib.Dec.{leb, eqb}
use borrow.Author.Tests.{le-leb, lt-leb, leb-true, leb-false, eqb-true, eqb-false}
use Rattle.lists.specs.Below.{highest, or_zero, downward, count_below}
use Rattle.lists.proofs.Tests.{by_bool, true-not-false, and_i}
use Rattle.lists.proofs.Below.{Highest, highest-is}
use Rattle.placement.proofs.Rules.{readable-cong}
use Rattle.medium.specs.Entry.{live}
use Rattle.medium.proofs.Entries.{live-used}
use Rattle.table.specs.declared.Table.{Table}
use Rattle.table.specs.Parts.{table_by, used_of, read_p, reads}
use Rattle.search.specs.declared.Place.{Place}
use Rattle.search.specs.Search.{Search, last_live, opening, search_below, search_for}
use Rattle.search.specs.Opened.{Met, NoneMet, lowest, opens, Opened}

-- of a table the read rule sees the salt and ReadP alone
pub reads_same : (t u : Table) (id k : ℕ) → t.salt ≡ u.salt → read_p t k ≡ read_p u k → reads t id k ≡ reads u id k
reads_same t u id k s e = readable-cong (read_p t) (read_p u) _ _ id k s e

-- out of the highest number that passes
pub highest-at : (p : ℕ → Bool) (n k : ℕ) → highest p n ≡ Some k → (k < n) × (p k ≡ true)
unfolding highest
highest-at p zero k e = let z : ◌≡◌ {A = ℕ} 0 1 = cc in absurd (omega arith)
highest-at p (suc n) k e = by_bool (p n)
    (λ d. let r : Some n ≡ Some k = rw d at e in let s : n ≡ k = cc in (omega arith, subst (λ (i : ℕ). p i ≡ true) s d))
    (λ d. let i = highest-at p n k (rw d at e) in (omega arith, i.1))

highest-none : (p : ℕ → Bool) (n : ℕ) → highest p n ≡ None → (k : ℕ) → k < n → p k ≡ true → ⊥
unfolding highest
highest-none p zero e k l q = omega arith
highest-none p (suc n) e k l q = by_bool (p n)
    (λ d. let r : Some n ≡ None = rw d at e in let z : ◌≡◌ {A = ℕ} 0 1 = cc in omega arith)
    (λ d. by_bool (eqb k n)
    (λ c. true-not-false q (ap p (eqb-true k n c) ∙ d))
    (λ c. highest-none p n (rw d at e) k (omega (arith, eqb-false k n c)) q))

highest-some : (p : ℕ → Bool) (n k : ℕ) → highest p n ≡ Some k → Highest p n k
unfolding or_zero
highest-some p n k e = let i = highest-at p n k e in rw e at (highest-is p n k i.0 i.1)

highest-top : (p : ℕ → Bool) (n k : ℕ) → Highest p n k → (i : ℕ) → i < n → p i ≡ true → i ≤ k
highest-top p n k h i l q = by_bool (leb i k)
    (λ e. leb-true i k e)
    (λ e. absurd (true-not-false q (h.none_above i (leb-false i k e) l)))

-- numbers that pass, as a list
downward-none : (p : ℕ → Bool) (n : ℕ) → ((k : ℕ) → k < n → p k ≡ false) → downward p n ≡ []
unfolding downward
downward-none p zero h = refl
downward-none p (suc n) h = rw (h n (omega arith)) (downward-none p n (λ k l. h k (omega arith)))

length-downward : (p : ℕ → Bool) (n : ℕ) → length (downward p n) ≡ count_below p n
unfolding downward count_below
length-downward p zero = refl
length-downward p (suc n) = by_bool (p n)
    (λ e. rw (e, length-downward p n) (omega arith))
    (λ e. rw (e, length-downward p n) (omega arith))

module _ (t : Table) (m : List ℕ) (id : ℕ) where
  -- t with its first n servers alone
  abbrev first : ℕ → Table
  first n = table_by (record { capacity = t.capacity; salt = t.salt; count = n }) t.weights t.used t.numerators t.denominators t.counters

  -- server k is readable, and not below the server of o
  abbrev from : Option Place → ℕ → Bool
  from o k = leb (lowest o) k && reads t id k

  -- what a search of the servers below n is
  record SearchIs (n : ℕ) (s : Search) : Type 0 where
    some_met : (p : Place) → s.met ≡ Some p → Met (first n) m id p
    none_met : s.met ≡ None → NoneMet (first n) m id
    opened : s.opened ≡ downward (from s.met) n

  -- the last of suc n servers is skipped, opened in vain, or where the search ends
  pub search-cases : (P : Search → Type 0) (n : ℕ)
      → (reads t id n ≡ false → P (search_below t m id n))
      → (reads t id n ≡ true → last_live t m id n ≡ None → P (opening n None (search_below t m id n)))
      → ((j : ℕ) → reads t id n ≡ true → last_live t m id n ≡ Some j → P (opening n (Some j) (search_below t m id n)))
      → P (search_below t m id (suc n))
  unfolding search_below
  search-cases P n skip on end = by_bool (reads t id n) (λ e. rw e (go e (last_live t m id n) refl)) (λ e. rw e (skip e))
    where
      go : reads t id n ≡ true → (o : Option ℕ) → last_live t m id n ≡ o → P (opening n (last_live t m id n) (search_below t m id n))
      go e None d = rw d (on e d)
      go e (Some j) d = rw d (end j e d)

  abbrev Live : ℕ → ℕ → Type 0
  Live k j = live t.capacity (used_of t k) m id k j ≡ true

  -- server n is not readable, or has no live entry
  abbrev Passed : ℕ → Type 0
  Passed n = reads t id n ≡ true → (j : ℕ) → Live n j → ⊥

  under : (n k j : ℕ) → Passed n → k < suc n → reads t id k ≡ true → Live k j → k < n
  under n k j h l r a = by_bool (eqb k n)
      (λ d. let e = eqb-true k n d in absurd (h (rw e at r) j (rw e at a)))
      (λ d. omega (arith, eqb-false k n d))

  -- then it changes nothing in what is met
  met-higher : (n : ℕ) (p : Place) → Passed n → Met (first n) m id p → Met (first (suc n)) m id p
  met-higher n p h b = record {
    below = omega (arith, b.below);
    is_read = b.is_read;
    is_live = b.is_live;
    top = λ k l r j a. b.top k (under n k j h l r a) r j a;
  }

  none-higher : (n : ℕ) → Passed n → NoneMet (first n) m id → NoneMet (first (suc n)) m id
  none-higher n h b = record { nowhere = λ k l r j a. b.nowhere k (under n k j h l r a) r j a }

  -- the highest live entry of server n
  met-here : (n j : ℕ) → reads t id n ≡ true → last_live t m id n ≡ Some j → Met (first (suc n)) m id (record { server = n; entry = j })
  unfolding last_live
  met-here n j r e =
      let h = highest-some (live t.capacity (used_of t n) m id n) (used_of t n) j e in
      record {
        below = omega arith;
        is_read = r;
        is_live = h.passes;
        top = λ k l q i a. (
          omega arith,
          λ s.
              let b : Live n i = rw s at a in
              highest-top (live t.capacity (used_of t n) m id n) (used_of t n) j h i (live-used t.capacity (used_of t n) m id n i b) b,
        );
      }

  last_none : (n : ℕ) → last_live t m id n ≡ None → Passed n
  unfolding last_live
  last_none n e r j a = highest-none (live t.capacity (used_of t n) m id n) (used_of t n) e j (live-used t.capacity (used_of t n) m id n j a) a

  -- the last server's part in the servers opened
  from_last : (o : Option Place) (n : ℕ) (b : Bool) → from o n ≡ b → downward (from o) (suc n) ≡ cond b (n ∷ []) [] ++ downward (from o) n
  unfolding downward
  from_last o n b e = rw e

  is-skipped : (n : ℕ) (s : Search) → SearchIs n s → reads t id n ≡ false → SearchIs (suc n) s
  is-skipped n s i e =
      let h : Passed n = λ r j a. true-not-false r e in
      record {
        some_met = λ p q. met-higher n p h (i.some_met p q);
        none_met = λ q. none-higher n h (i.none_met q);
        opened = i.opened ∙ sym (from_last s.met n false (rw e (and-false (leb (lowest s.met) n))));
      }

  low : (n : ℕ) (s : Search) → SearchIs n s → leb (lowest s.met) n ≡ true
  unfolding lowest
  low n s i = go s.met refl
    where
      go : (o : Option Place) → s.met ≡ o → leb (lowest o) n ≡ true
      go None e = le-leb 0 n (omega arith)
      go (Some p) e = le-leb p.server n (omega (arith, (i.some_met p e).below))

  is-passed : (n : ℕ) (s : Search) → SearchIs n s → reads t id n ≡ true → last_live t m id n ≡ None → SearchIs (suc n) (opening n None s)
  unfolding opening
  is-passed n s i e d =
      let h = last_none n d in
      record {
        some_met = λ p q. met-higher n p h (i.some_met p q);
        none_met = λ q. none-higher n h (i.none_met q);
        opened = ap (λ (l : List ℕ). n ∷ l) i.opened ∙ sym (from_last s.met n true (and_i _ _ (low n s i) e));
      }

  is-ended : (n j : ℕ) (s : Search) → reads t id n ≡ true → last_live t m id n ≡ Some j → SearchIs (suc n) (opening n (Some j) s)
  unfolding opening lowest
  is-ended n j s e d =
      let p : Place = record { server = n; entry = j } in
      record {
        some_met = λ q f. let r : p ≡ q = cc in subst (Met (first (suc n)) m id) r (met-here n j e d);
        none_met = λ f. let z : ◌≡◌ {A = ℕ} 0 1 = cc in absurd (omega arith);
        opened = sym (from_last (Some p) n true (and_i _ _ (le-leb n n (omega arith)) e)
            ∙ ap (λ (l : List ℕ). n ∷ l) (downward-none (from (Some p)) n (λ k l. rw (lt-leb n k l))));
      }

  search_is : (n : ℕ) → SearchIs n (search_below t m id n)
  unfolding search_below downward
  search_is zero = record {
    some_met = λ p e. let z : ◌≡◌ {A = ℕ} 0 1 = cc in absurd (omega arith);
    none_met = λ e. record { nowhere = λ k l r j a. omega arith };
    opened = refl;
  }
  search_is (suc n) =
      let i = search_is n in
      search-cases (SearchIs (suc n)) n (is-skipped n _ i) (is-passed n _ i) (λ j. is-ended n j _)

  -- a search of the servers below n ends below n
  pub search-low : (n : ℕ) → leb (lowest (search_below t m id n).met) n ≡ true
  search-low n = low n _ (search_is n)

  pub met_some : (p : Place) → (search_for t m id).met ≡ Some p → Met t m id p
  unfolding search_for
  met_some p e = (search_is t.count).some_met p e

  pub met-none : (search_for t m id).met ≡ None → NoneMet t m id
  unfolding search_for
  met-none e = (search_is t.count).none_met e

  pub opened-are : Opened t m id
  unfolding search_for opens
  opened-are =
      let e = (search_is t.count).opened in
      record { servers = e; number = ap length e ∙ length-downward _ t.count }
