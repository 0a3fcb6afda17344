-- Laws of the counters: to add with a stop at each step is to cap the sum, and what each counter is after an addition.
-- Assumes nothing.
use Prim.Native.Nat.{ℕ, ◌+◌, ◌≤◌, ◌<◌, min}
use mathlib.Core.Path.{◌≡◌, sym, ap, ◌∙◌}
use mathlib.Core.Logic.{◌≢◌}
use mathlib.Core.Bool.{true}
use mathlib.Core.List.{List}
use native.Mathlib.Omega.{arith}
use lib.ListN.{length, length-set}
use lib.Seq.{get_or-set_same, get_or-set_other, set-get_or, set_out, set-set}
use lib.Dec.{eqb, ltb, leb}
use borrow.Author.Tests.{leb-true, le-leb, ltb-true, ltb-false, eqb-true, eqb-false}
use Rattle.limits.specs.Limits.{tenants, max_counter}
use Rattle.lists.specs.Below.{nth}
use Rattle.lists.proofs.Tests.{by_bool, iff-eq}
use Rattle.lists.proofs.Below.{all_below-out, all_below-cong}
use Rattle.counters.specs.Counter.{grown, counted, in_bounds}

-- adding with a stop at each step is capping the sum
pub grown-twice : (counter a b : ℕ) → grown (grown counter a) b ≡ grown counter (a + b)
unfolding grown
grown-twice counter a b = omega arith

pub grown-none : (counter : ℕ) → grown counter 0 ≡ counter
unfolding grown
grown-none counter = omega arith

-- from zero it is the smaller of the bound and the sum
pub grown-fresh : (opened : ℕ) → grown 0 opened ≡ min max_counter opened
unfolding grown
grown-fresh opened = omega arith

pub grown-least : (counter opened : ℕ) → counter ≤ grown counter opened
unfolding grown
grown-least counter opened = omega arith

pub grown-bound : (counter opened : ℕ) → counter ≤ max_counter → grown counter opened ≤ max_counter
unfolding grown
grown-bound counter opened l = omega arith

module _ (counters : List ℕ) (tenant opened : ℕ) where
  pub counted-long : length (counted counters tenant opened) ≡ length counters
  unfolding counted
  counted-long = length-set counters tenant _

  pub counted-own : tenant < length counters → nth (counted counters tenant opened) tenant ≡ grown (nth counters tenant) opened
  unfolding counted
  counted-own l = get_or-set_same counters tenant _ 0 l

  pub counted-other : (k : ℕ) → k ≢ tenant → nth (counted counters tenant opened) k ≡ nth counters k
  unfolding counted
  counted-other k n = get_or-set_other counters tenant k _ 0 n

  pub counted-out : length counters ≤ tenant → counted counters tenant opened ≡ counters
  unfolding counted
  counted-out l = set_out counters tenant _ l

  -- no counter falls, so counters are within their bounds after it exactly when they were before
  below : tenant < length counters → (k : ℕ) → (nth counters k ≤ nth (counted counters tenant opened) k) × (nth counters k ≤ max_counter → nth (counted counters tenant opened) k ≤ max_counter)
  below l k = by_bool (eqb k tenant)
      (λ d. rw (eqb-true k tenant d, counted-own l) (grown-least _ opened, grown-bound _ opened))
      (λ d. rw (counted-other k (eqb-false k tenant d)) (omega arith, λ h. h))

  within : tenant < length counters → in_bounds (counted counters tenant opened) ≡ in_bounds counters
  unfolding in_bounds
  within l = all_below-cong _ _ tenants (λ k m.
      let b = below l k in
      iff-eq _ _
      (λ e. let h = leb-true (nth (counted counters tenant opened) k) max_counter e in le-leb (nth counters k) max_counter (omega (arith, h, b.0)))
      (λ e. le-leb _ _ (b.1 (leb-true (nth counters k) max_counter e))))

  pub counted-bounds : in_bounds (counted counters tenant opened) ≡ in_bounds counters
  counted-bounds = by_bool (ltb tenant (length counters))
      (λ d. within (ltb-true _ _ d))
      (λ d. ap in_bounds (counted-out (ltb-false _ _ d)))

-- none opened, and no counter changes, whoever is named
pub counted_none : (counters : List ℕ) (tenant : ℕ) → counted counters tenant 0 ≡ counters
unfolding counted
counted_none counters tenant = rw (grown-none) (set-get_or counters tenant 0)

-- one after another is both together
pub counted-twice : (counters : List ℕ) (tenant a b : ℕ) → counted (counted counters tenant a) tenant b ≡ counted counters tenant (a + b)
unfolding counted
counted-twice counters tenant a b = by_bool (ltb tenant (length counters))
    (λ d. rw (get_or-set_same counters tenant (grown (nth counters tenant) a) 0 (ltb-true _ _ d), set-set, grown-twice))
    (λ d.
    let l = ltb-false _ _ d in
    set_out _ tenant _ (omega (arith, length-set counters tenant (grown (nth counters tenant) a), l))
    ∙ set_out counters tenant _ l
    ∙ sym (set_out counters tenant _ l))

-- what counters within their bounds are, one by one; and those that are the same one by one are alike within them
pub bounds-at : (counters : List ℕ) → in_bounds counters ≡ true → (i : ℕ) → i < tenants → nth counters i ≤ max_counter
unfolding in_bounds
bounds-at counters b i l = leb-true (nth counters i) max_counter (all_below-out (λ i. leb (nth counters i) max_counter) tenants b i l)

pub bounds-cong : (counters others : List ℕ) → ((i : ℕ) → i < tenants → nth counters i ≡ nth others i) → in_bounds counters ≡ in_bounds others
unfolding in_bounds
bounds-cong counters others h = all_below-cong _ _ tenants (λ i l. ap (λ (x : ℕ). leb x max_counter) (h i l))
