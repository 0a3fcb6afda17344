-- Out of and into the tests of an entry: that it bears an id, that it is live, that words are blank.
-- Assumes nothing.
use Prim.Native.Nat.{ℕ, ◌+◌, ◌<◌}
use mathlib.Core.Path.{◌≡◌, ◌∙◌}
use mathlib.Core.Bool.{Bool, true, false}
use mathlib.Core.List.{List}
use lib.Dec.{ltb, eqb}
use lib.ListN.{get_or, take, drop}
use borrow.Author.Tests.{ltb-true, lt-ltb, eqb-true, eq-eqb, ne_eqb}
use Rattle.std.proofs.lemmas.List.{get_or-take, get_or-drop}
use Rattle.lists.specs.Below.{nth}
use Rattle.lists.proofs.Tests.{and_l, and_r, and_i}
use Rattle.lists.proofs.Below.{all_below-more, all_below-in, all_below-out, all_below-not}
use Rattle.medium.specs.Word.{id_word, blank}
use Rattle.medium.specs.Entry.{entry_at, mark_at, bears_at, bears, live, blank_run}

module _ (capacity : ℕ) (m : List ℕ) (id k j : ℕ) where
  pub bears-i : nth m (entry_at capacity k j) ≡ id_word id → nth m (mark_at capacity k j) ≡ blank → bears capacity m id k j ≡ true
  unfolding bears_at
  bears-i a b = and_i _ _ (eq-eqb _ _ a) (eq-eqb _ _ b)

  pub bears-id : bears capacity m id k j ≡ true → nth m (entry_at capacity k j) ≡ id_word id
  unfolding bears_at
  bears-id e = eqb-true _ _ (and_l (eqb (nth m (entry_at capacity k j)) (id_word id)) _ e)

  pub bears-mark : bears capacity m id k j ≡ true → nth m (mark_at capacity k j) ≡ blank
  unfolding bears_at
  bears-mark e = eqb-true _ _ (and_r (eqb (nth m (entry_at capacity k j)) (id_word id)) _ e)

module _ (capacity used : ℕ) (m : List ℕ) (id k j : ℕ) where
  -- below used an entry is live exactly if it bears the id
  pub live_below : j < used → live capacity used m id k j ≡ bears capacity m id k j
  unfolding live
  live_below l = rw (lt-ltb _ _ l)

  pub live-i : j < used → bears capacity m id k j ≡ true → live capacity used m id k j ≡ true
  live-i l b = live_below l ∙ b

  pub live-used : live capacity used m id k j ≡ true → j < used
  unfolding live
  live-used e = ltb-true _ _ (and_l (ltb j used) _ e)

  pub live-bears : live capacity used m id k j ≡ true → bears capacity m id k j ≡ true
  unfolding live
  live-bears e = and_r (ltb j used) _ e

-- two media have the same id word and the same mark in an entry
pub record SameEntry (capacity : ℕ) (m m' : List ℕ) (k j : ℕ) : Type 0 where
  pub id_same : nth m (entry_at capacity k j) ≡ nth m' (entry_at capacity k j)
  pub mark_same : nth m (mark_at capacity k j) ≡ nth m' (mark_at capacity k j)

pub bears-cong : (capacity : ℕ) (m m' : List ℕ) (id k j : ℕ) → SameEntry capacity m m' k j → bears capacity m id k j ≡ bears capacity m' id k j
unfolding bears_at
bears-cong capacity m m' id k j s = rw (s.id_same, s.mark_same)

pub live-cong : (capacity used : ℕ) (m m' : List ℕ) (id k j : ℕ) → SameEntry capacity m m' k j → live capacity used m id k j ≡ live capacity used m' id k j
unfolding live
live-cong capacity used m m' id k j s = rw (bears-cong capacity m m' id k j s)

-- a word of a run is that of the slice
pub run-word : (m : List ℕ) (from n i : ℕ) → i < n → get_or (take n (drop from m)) i 0 ≡ nth m (from + i)
run-word m from n i l = get_or-take n (drop from m) i 0 l ∙ get_or-drop from m i 0

module _ (m : List ℕ) (from n : ℕ) where
  abbrev is_blank : ℕ → Bool
  is_blank i = eqb (nth m (from + i)) blank

  pub blank_more : blank_run m from n ≡ true → nth m (from + n) ≡ blank → blank_run m from (n + 1) ≡ true
  unfolding blank_run
  blank_more e h = all_below-more is_blank n e (eq-eqb _ _ h)

  pub blank-at : blank_run m from n ≡ true → (i : ℕ) → i < n → nth m (from + i) ≡ blank
  unfolding blank_run
  blank-at e i l = eqb-true _ _ (all_below-out is_blank n e i l)

  pub blank-run : ((i : ℕ) → i < n → nth m (from + i) ≡ blank) → blank_run m from n ≡ true
  unfolding blank_run
  blank-run h = all_below-in is_blank n (λ i l. eq-eqb _ _ (h i l))

  -- one word that is not
  pub blank-not : (i : ℕ) → i < n → (nth m (from + i) ≡ blank → ⊥) → blank_run m from n ≡ false
  unfolding blank_run
  blank-not i l h = all_below-not is_blank n i l (ne_eqb _ _ h)
