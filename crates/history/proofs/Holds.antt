-- What the medium has of the ledger's events, by plain numbers and lists: no table, no state, no ledger.
-- Assumes nothing.
use Prim.Native.Nat.{ℕ, ◌+◌, ◌≤◌, ◌<◌}
use mathlib.Core.Path.{◌≡◌, sym, ◌∙◌}
use mathlib.Core.Logic.{◌≢◌}
use mathlib.Core.Bool.{Bool, true, false}
use mathlib.Core.List.{List}
use native.Mathlib.Omega.{arith}
use native.Mathlib.Nat.{add-zero}
use lib.ListN.{length}
use lib.Dec.{ltb, eqb}
use borrow.Author.Tests.{ltb-true, ltb-false, eqb-true, eqb-false}
use Rattle.limits.specs.Limits.{content_range}
use Rattle.lists.specs.Below.{nth}
use Rattle.lists.proofs.Tests.{by_bool, true-not-false}
use Rattle.medium.specs.Word.{id_word, value_word, blank}
use Rattle.medium.specs.Entry.{entry_words, server_at, entry_at, value_at, bears, blank_run}
use Rattle.medium.proofs.Entries.{bears-id, blank-at, blank-run}
use Rattle.history.specs.Ledger.{Event, used_by}
use Rattle.history.proofs.Tops.{TopAt}
use Rattle.history.proofs.Events.{place_of, EachWrite, used-write}

-- entry j of a server has the words of a write
pub record InEntry (capacity : ℕ) (m : List ℕ) (id value server j : ℕ) : Type 0 where
  pub id_there : nth m (entry_at capacity server j) ≡ id_word id
  pub value_there : nth m (value_at capacity server j) ≡ value_word value
  pub id_small : id < content_range
  pub value_small : value < content_range

-- the medium m of `count` servers after the events, `rule` saying which servers are read for an id
pub record Holds (capacity count : ℕ) (rule : ℕ → ℕ → Bool) (events : List Event) (m : List ℕ) : Type 0 where
  -- every server lies inside; past the last one, and from its used on in each, all is blank
  pub long : server_at capacity count ≤ length m
  pub rest : (a : ℕ) → server_at capacity count ≤ a → a < length m → nth m a ≡ blank
  pub free : (k j q : ℕ) → k < count → used_by events k ≤ j → j < capacity → q < 3 → nth m (entry_at capacity k j + q) ≡ blank
  pub fits : (k : ℕ) → used_by events k ≤ capacity
  -- a used entry has a word that is not blank
  pub filled : (k j : ℕ) → k < count → j < used_by events k → blank_run m (entry_at capacity k j) entry_words ≡ false
  pub none_above : (k : ℕ) → count ≤ k → used_by events k ≡ 0
  -- each write has its words in its entry
  pub written : EachWrite events (λ newer older id value server. InEntry capacity m id value server (used_by older server))
  -- what bears an id is readable for it, and the top one is that of its last write
  pub opens : (id k j : ℕ) → id < content_range → k < count → j < capacity → bears capacity m id k j ≡ true → rule id k ≡ true
  pub tops : (id : ℕ) → id < content_range → TopAt (bears capacity m id) count capacity (place_of events id)

module _ {capacity count : ℕ} {rule : ℕ → ℕ → Bool} {events : List Event} {m : List ℕ} (H : Holds capacity count rule events m) where
  free-id : (k j : ℕ) → k < count → used_by events k ≤ j → j < capacity → nth m (entry_at capacity k j) ≡ blank
  free-id k j l u i = rw add-zero at (H.free k j 0 l u i (omega arith))

  -- an entry that bears an id is used
  pub bears-used : (id k j : ℕ) → id < content_range → k < count → j < capacity → bears capacity m id k j ≡ true → j < used_by events k
  bears-used id k j n l i b = by_bool (ltb j (used_by events k))
      (λ d. ltb-true j (used_by events k) d)
      (λ d. absurd (omega (arith, bears-id capacity m id k j b, free-id k j l (ltb-false j (used_by events k) d) i)))

  -- the server of a write is there
  pub write-there : EachWrite events (λ newer older id value server. server < count)
  write-there newer older id value server e = by_bool (ltb server count)
      (λ d. ltb-true server count d)
      (λ d. absurd (omega (arith, H.none_above server (ltb-false server count d), used-write events newer older id value server e)))

-- words that are not blank stay
abbrev pub Once : List ℕ → List ℕ → Type 0
Once m N = (a : ℕ) → nth m a ≢ blank → nth N a ≡ nth m a

module _ (m N : List ℕ) (once : Once m N) where
  pub once-blank : (a : ℕ) → nth N a ≡ blank → nth m a ≡ blank
  once-blank a e = by_bool (eqb (nth m a) blank)
      (λ d. eqb-true (nth m a) blank d)
      (λ d. sym (once a (eqb-false (nth m a) blank d)) ∙ e)

  -- so the words of a write stay
  pub once-written : {capacity id value server j : ℕ} → InEntry capacity m id value server j → InEntry capacity N id value server j
  once-written {capacity} {id} {value} {server} {j} w = record {
    id_there = once (entry_at capacity server j) (λ e. omega (arith, w.id_there, w.id_small)) ∙ w.id_there;
    value_there = once (value_at capacity server j) (λ e. omega (arith, w.value_there, w.value_small)) ∙ w.value_there;
    id_small = w.id_small;
    value_small = w.value_small;
  }

  -- and an entry that is filled stays so
  pub once-filled : (from n : ℕ) → blank_run m from n ≡ false → blank_run N from n ≡ false
  once-filled from n f = by_bool (blank_run N from n)
      (λ d. absurd (true-not-false (blank-run m from n (λ i l. once-blank (from + i) (blank-at N from n d i l))) f))
      (λ d. d)
