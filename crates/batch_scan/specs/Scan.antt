-- One pass over the entries of a server for several ids, for the contracts of the functions that make it.
use Rattle.std.specs.Prelude.{ℕ, ◌+◌, ◌*◌, ◌%◌, ◌≤◌, ◌<◌, ◌≡◌, Bool, true, false, cond, List, length, get_or, eqb, Option, None, Some}
use Rattle.std.specs.Option.{option_or}
use Rattle.lists.specs.Below.{nth, highest}
use Rattle.medium.specs.Entry.{entry_words, bears_at, live}

-- the slots of a filter, and the one of an id's word
abbrev pub slots : ℕ
slots = 4096

abbrev pub slot_of : ℕ → ℕ
slot_of word = word % slots

-- the entries that are tested together
abbrev pub tested_entries : ℕ
tested_entries = 8

-- the slot of a word is set
unfoldable pub is_set : List Bool → ℕ → Bool
is_set filter word = get_or filter (slot_of word) false

-- a filter has the slots of the first n ids set
pub record Covers (filter : List Bool) (ids : List ℕ) (n : ℕ) : Type 0 where
  pub set_at : (i : ℕ) → i < n → is_set filter (nth ids i) ≡ true

-- an id's newest entry so far, and the entry that is next: `bears` says whether that bears the id
unfoldable pub newest_after : Bool → ℕ → Option ℕ → Option ℕ
newest_after bears entry None = cond bears (Some entry) None
newest_after bears entry (Some met) = Some met

-- the newest entry so far of the id at position i
abbrev pub newest_at : List (Option ℕ) → ℕ → Option ℕ
newest_at newest i = get_or newest i None

-- an entry that has no mark and this word was met for each of the first n ids, and for no other
pub record EntryMet (word entry : ℕ) (ids : List ℕ) (n : ℕ) (before after : List (Option ℕ)) : Type 0 where
  pub long : length after ≡ length before
  pub each : (i : ℕ) → i < n → newest_at after i ≡ newest_after (eqb word (nth ids i)) entry (newest_at before i)
  pub rest : (i : ℕ) → n ≤ i → newest_at after i ≡ newest_at before i

-- entry j of the server that begins at an address bears an id
unfoldable pub bearing : List ℕ → ℕ → ℕ → ℕ → Bool
bearing m base id j = bears_at m id (base + entry_words * j)

-- the entries from low up to high were passed: for each of the first n ids its newest entry after that, with the entries below low
-- left, is what it was before with those below high left
pub record Passed (m : List ℕ) (base : ℕ) (ids : List ℕ) (n low high : ℕ) (before after : List (Option ℕ)) : Type 0 where
  pub long : length after ≡ length before
  pub each : (i : ℕ) → i < n
      → option_or (newest_at after i) (highest (bearing m base (nth ids i)) low) ≡ option_or (newest_at before i) (highest (bearing m base (nth ids i)) high)

-- each of the ids has its highest-numbered live entry on server k, if it has one there
pub record NewestOf (capacity used : ℕ) (m ids : List ℕ) (k : ℕ) (newest : List (Option ℕ)) : Type 0 where
  pub each : (i : ℕ) → i < length ids → newest_at newest i ≡ highest (live capacity used m (nth ids i) k) used
