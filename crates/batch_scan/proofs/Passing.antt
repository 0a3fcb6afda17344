-- The pass over a server's entries step by step: what an entry that is met, that is passed over, or a block of those leaves.
-- Assumes nothing.
use Prim.Native.Nat.{ℕ, ◌+◌, ◌-◌, ◌*◌, ◌≤◌, ◌<◌}
use mathlib.Core.Path.{◌≡◌, refl, sym, ap, ◌∙◌}
use mathlib.Core.Bool.{Bool, true, false, cond, ◌&&◌, and-true, and-false}
use mathlib.Core.List.{List}
use Rattle.std.specs.Prelude.{Option, None, Some}
use Rattle.std.specs.Option.{option_or}
use Rattle.std.specs.List.{list_any, range_with_len}
use Rattle.std.proofs.lemmas.List.{take_all}
use Rattle.std.proofs.lemmas.List.FromFn.{length-range_with_len, get_or-range_with_len}
use native.Mathlib.Omega.{arith}
use lib.ListN.{length, get_or, take}
use lib.Dec.{eqb}
use borrow.Author.Tests.{eqb-true, eq-eqb}
use Rattle.lists.specs.Below.{nth, highest, some_below}
use Rattle.lists.proofs.Tests.{by_bool, true-not-false}
use Rattle.lists.proofs.Below.{highest-last, highest-cong, highest-below, some_below-out, some_below-cong}
use Rattle.lists.proofs.Listed.{some_below-take}
use Rattle.medium.specs.Word.{blank}
use Rattle.medium.specs.Entry.{entry_words, mark_place, server_at, entry_at, bears_at, live}
use Rattle.medium.proofs.Entries.{live_below}
use Rattle.batch_scan.specs.Scan.{slot_of, is_set, Covers, newest_after, newest_at, EntryMet, bearing, Passed, NewestOf}

-- a test of the numbers below n, one after another
pub some-numbers : (p : ℕ → Bool) (n : ℕ) → list_any p (range_with_len 0 n) ≡ some_below p n
some-numbers p n =
    let whole : take n (range_with_len 0 n) ≡ range_with_len 0 n = take_all n _ (omega (arith, length-range_with_len 0 n)) in
    ap (list_any p) (sym whole)
    ∙ sym (some_below-take p (range_with_len 0 n) n (omega (arith, length-range_with_len 0 n)))
    ∙ some_below-cong _ p n (λ k l. let e : nth (range_with_len 0 n) k ≡ k = omega (arith, get_or-range_with_len 0 n k 0 l) in ap p e)

-- an entry that bears the id is met if none was met before
met_next : (b : Bool) (entry : ℕ) (newest left : Option ℕ) → option_or (newest_after b entry newest) left ≡ option_or newest (cond b (Some entry) left)
unfolding newest_after
met_next true entry None left = refl
met_next false entry None left = refl
met_next b entry (Some met) left = refl

-- no entry is left
met_all : (newest : Option ℕ) → option_or newest None ≡ newest
met_all None = refl
met_all (Some met) = refl

-- an entry that bears an id has its slot set
set-where : (filter : List Bool) (ids : List ℕ) (n : ℕ) → Covers filter ids n → (i : ℕ) → i < n → (word : ℕ) → eqb word (nth ids i) ≡ true → is_set filter word ≡ true
set-where filter ids n c i l word e = rw (eqb-true word (nth ids i) e) (c.set_at i l)

module _ (m : List ℕ) (base : ℕ) (ids : List ℕ) (n : ℕ) where
  -- one stretch after another
  pub passed_then : {low j high : ℕ} {before mid after : List (Option ℕ)} → Passed m base ids n j high before mid → Passed m base ids n low j mid after → Passed m base ids n low high before after
  passed_then p q = record { long = q.long ∙ p.long; each = λ i l. q.each i l ∙ p.each i l }

  -- an entry that begins at a
  module _ (a j : ℕ) (place : a ≡ base + entry_words * j) where
    bears-at : (i : ℕ) → bearing m base (nth ids i) j ≡ eqb (nth m a) (nth ids i) && eqb (nth m (a + mark_place)) blank
    unfolding bearing bears_at
    bears-at i = rw place

    no_slot : (filter : List Bool) → Covers filter ids n → is_set filter (nth m a) ≡ false → (i : ℕ) → i < n → bearing m base (nth ids i) j ≡ false
    no_slot filter c d i l = by_bool (eqb (nth m a) (nth ids i))
        (λ e. absurd (true-not-false (set-where filter ids n c i l (nth m a) e) d))
        (λ e. bears-at i ∙ rw e)

    not-borne : (filter : List Bool) → Covers filter ids n → is_set filter (nth m a) && eqb (nth m (a + mark_place)) blank ≡ false
        → (i : ℕ) → i < n → bearing m base (nth ids i) j ≡ false
    not-borne filter c d i l = by_bool (is_set filter (nth m a))
        (λ e. let f : eqb (nth m (a + mark_place)) blank ≡ false = rw e at d in bears-at i ∙ rw f (and-false (eqb (nth m a) (nth ids i))))
        (λ e. no_slot filter c e i l)

  -- the entry below j
  module _ (j a : ℕ) (l : 0 < j) (place : a ≡ base + entry_words * (j - 1)) where
    pub passed_over : (filter : List Bool) → Covers filter ids n → (x : List (Option ℕ)) (s : ℕ) → s ≡ slot_of (nth m a)
        → get_or filter s false && eqb (nth m (a + mark_place)) blank ≡ false → Passed m base ids n (j - 1) j x x
    unfolding is_set
    passed_over filter c x s e d = record {
      long = refl;
      each = λ i b. ap (option_or (newest_at x i)) (sym (highest-last (bearing m base (nth ids i)) j false l (not-borne a (j - 1) place filter c (rw e at d) i b)));
    }

    pub passed-met : (x y : List (Option ℕ)) → nth m (a + mark_place) ≡ blank → EntryMet (nth m a) (j - 1) ids n x y → Passed m base ids n (j - 1) j x y
    passed-met x y mark met = record {
      long = met.long;
      each = λ i b.
          let here : bearing m base (nth ids i) (j - 1) ≡ eqb (nth m a) (nth ids i) = bears-at a (j - 1) place i ∙ rw (eq-eqb (nth m (a + mark_place)) blank mark) (and-true (eqb (nth m a) (nth ids i))) in
          let last = highest-last (bearing m base (nth ids i)) j (eqb (nth m a) (nth ids i)) l here in
          rw (met.each i b, last) (met_next (eqb (nth m a) (nth ids i)) (j - 1) (newest_at x i) (highest (bearing m base (nth ids i)) (j - 1)));
    }

  -- a block of any size from entry low on, which begins at a
  pub passed-block : (filter : List Bool) → Covers filter ids n → (size low a : ℕ) (x : List (Option ℕ)) → a ≡ base + entry_words * low
      → some_below (λ k. is_set filter (nth m (a + entry_words * k))) size ≡ false → Passed m base ids n low (low + size) x x
  passed-block filter c size low a x place d = record {
    long = refl;
    each = λ i b. ap (option_or (newest_at x i)) (sym (highest-below (bearing m base (nth ids i)) (low + size) low (omega arith) (λ k f t. none-borne i b k f t)));
  }
    where
      none-borne : (i : ℕ) → i < n → (k : ℕ) → low ≤ k → k < low + size → bearing m base (nth ids i) k ≡ false
      none-borne i b k f t = no_slot (a + entry_words * (k - low)) k (omega arith) filter c
          (some_below-out (λ s. is_set filter (nth m (a + entry_words * s))) size d (k - low) (omega arith)) i b

-- an entry of a server, by the server's first word
bearing-live : (capacity used : ℕ) (m : List ℕ) (id k base j : ℕ) → base ≡ server_at capacity k → j < used → bearing m base id j ≡ live capacity used m id k j
unfolding bearing entry_at
bearing-live capacity used m id k base j place b = rw place (sym (live_below capacity used m id k j b))

-- all entries of a server were passed for the ids, and none had met one before
pub newest-all : (capacity used : ℕ) (m ids : List ℕ) (k base : ℕ) (x y : List (Option ℕ)) → base ≡ server_at capacity k → ((i : ℕ) → i < length ids → newest_at x i ≡ None)
    → Passed m base ids (length ids) 0 used x y → NewestOf capacity used m ids k y
unfolding highest
newest-all capacity used m ids k base x y place none p = record {
  each = λ i l. sym (met_all (newest_at y i)) ∙ p.each i l
      ∙ rw (none i l) (highest-cong (bearing m base (nth ids i)) (live capacity used m (nth ids i) k) used (λ j b. bearing-live capacity used m (nth ids i) k base j place b));
}
