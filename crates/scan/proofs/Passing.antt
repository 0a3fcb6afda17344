-- Blocks that a search passes over: where no entry of a block bears the id, the highest live entry is below it.
-- The laws are over any number of entries in a block. Assumes nothing.
use Prim.Native.Nat.{ℕ, ◌+◌, ◌-◌, ◌*◌, ◌≤◌, ◌<◌}
use mathlib.Core.Path.{◌≡◌, refl, sym, ap, ap₂, ◌∙◌}
use mathlib.Core.Bool.{Bool, false, ◌||◌}
use mathlib.Core.List.{List}
use native.Mathlib.Omega.{arith}
use Rattle.std.specs.Prelude.{Option, None, Some, option_map}
use Rattle.std.specs.Option.{option_or}
use lib.Dec.{eqb}
use lib.ListN.{length, get_or, take, drop}
use Rattle.std.proofs.Math.Bool.{or_comm}
use Rattle.lists.specs.Below.{nth, some_below, highest}
use Rattle.lists.proofs.Below.{some_below-out, some_below-next, highest-below, highest-cong, highest-run}
use Rattle.medium.specs.Word.{id_word}
use Rattle.medium.specs.Entry.{entry_words, entry_at, bears_at, live, Inside}
use Rattle.medium.proofs.Places.{entry-on, entries-inside}
use Rattle.medium.proofs.Entries.{run-word, live_below}

-- some of n words from an address on is an id's, and some of n entries bears it
abbrev pub has_word : List ℕ → ℕ → ℕ → ℕ → Bool
has_word m id from n = some_below (λ i. eqb (nth m (from + i)) (id_word id)) n

abbrev pub bears_some : List ℕ → ℕ → ℕ → ℕ → Bool
bears_some m id from n = some_below (λ i. bears_at m id (from + entry_words * i)) n

-- the words of a run are a slice, and its next word is the slice's
pub has-next : (m : List ℕ) (id from n i : ℕ) {found : Bool} → i < n → found ≡ has_word m id from i
    → found || eqb (get_or (take n (drop from m)) i 0) id ≡ has_word m id from (i + 1)
has-next m id from n i {found} l e = rw (run-word m from n i l, or_comm) (some_below-next (λ i. eqb (nth m (from + i)) id) i (eqb (nth m (from + i)) id) found refl e)

-- an entry whose first word is not the id's does not bear it
other_word : (m : List ℕ) (id at : ℕ) → eqb (nth m at) (id_word id) ≡ false → bears_at m id at ≡ false
unfolding bears_at
other_word m id at e = rw e

-- nor does any entry of words of which none is
pub none-by-words : (m : List ℕ) (id from d : ℕ) → has_word m id from (entry_words * d) ≡ false → (i : ℕ) → i < d → bears_at m id (from + entry_words * i) ≡ false
none-by-words m id from d e i l = other_word m id (from + entry_words * i) (some_below-out _ (entry_words * d) e (entry_words * i) (omega arith))

-- d entries from entry low on are a block
module _ (capacity used : ℕ) (m : List ℕ) (id k d low : ℕ) (below : low + d ≤ used) {from : ℕ} (place : from ≡ entry_at capacity k low) where
  -- no entry of a block bears the id: the highest live entry is below the block
  module _ (h : (i : ℕ) → i < d → bears_at m id (from + entry_words * i) ≡ false) where
    dead : (i : ℕ) → low ≤ i → i < low + d → live capacity used m id k i ≡ false
    dead i a b =
        let e : entry_at capacity k i ≡ from + entry_words * (i - low) = entry-on capacity k low i a ∙ ap (λ (x : ℕ). x + entry_words * (i - low)) (sym place) in
        live_below capacity used m id k i (omega arith) ∙ ap (bears_at m id) e ∙ h (i - low) (omega arith)

    pub block-passed : highest (live capacity used m id k) (low + d) ≡ highest (live capacity used m id k) low
    block-passed = highest-below (live capacity used m id k) (low + d) low (omega arith) dead

  -- it lies inside the medium
  pub block-inside : Inside capacity k m → used ≤ capacity → from + entry_words * d ≤ length m
  block-inside i l = omega (arith, place, entries-inside capacity k low d m i (omega arith))

  -- as the code tells it, by the words, and by the entries
  pub passed-by-words : has_word m id from (entry_words * d) ≡ false → highest (live capacity used m id k) (low + d) ≡ highest (live capacity used m id k) low
  passed-by-words e = block-passed (none-by-words m id from d e)

  pub passed-by-entries : bears_some m id from d ≡ false → highest (live capacity used m id k) (low + d) ≡ highest (live capacity used m id k) low
  passed-by-entries e = block-passed (λ i l. some_below-out (λ i. bears_at m id (from + entry_words * i)) d e i l)

-- n entries from entry low on: the highest live entry of all that are below low + n is one of them, or else it is below low
module _ (capacity used : ℕ) (m : List ℕ) (id k low n : ℕ) (few : low + n ≤ used) where
  bearing : ℕ → Bool
  bearing j = bears_at m id (entry_at capacity k j)

  same : (d : ℕ) → d ≤ used → highest (live capacity used m id k) d ≡ highest bearing d
  unfolding bearing
  same d l = highest-cong (live capacity used m id k) bearing d (λ j h. live_below capacity used m id k j (omega arith))

  pub run-found : (last : Option ℕ) → last ≡ highest (λ i. bears_at m id (entry_at capacity k (low + i))) n
      → highest (live capacity used m id k) (low + n) ≡ option_or (option_map (λ i. low + i) last) (highest (live capacity used m id k) low)
  unfolding bearing
  run-found last e = same (low + n) few ∙ highest-run bearing low n ∙ ap₂ option_or (ap (option_map (λ i. low + i)) (sym e)) (sym (same low (omega arith)))

-- below 0 there is none
or_none : (found : Option ℕ) → option_or found None ≡ found
or_none None = refl
or_none (Some i) = refl

pub all-searched : (p : ℕ → Bool) (n : ℕ) (found : Option ℕ) → highest p (0 + n) ≡ option_or found (highest p 0) → found ≡ highest p n
unfolding highest
all-searched p n found e = sym (or_none found) ∙ sym e ∙ ap (highest p) (omega arith)
