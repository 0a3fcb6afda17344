-- What `resume` ensures, by whether its words are enough for a table.
-- Assumes nothing.
use Prim.Native.Nat.{ℕ, ◌≤◌, ◌<◌}
use mathlib.Core.Path.{◌≡◌, refl, ◌∙◌}
use mathlib.Core.List.{List}
use lib.ListN.{length}
use borrow.Author.Tests.{lt-ltb, le-ltb}
use Rattle.table_words.specs.Words.{table_length, with_table}
use Rattle.history.specs.Machine.{turned, after_turns, after}
use Rattle.encoding.specs.Encoding.{room_for}
use Rattle.call_words.specs.CallWords.{lent}
use Rattle.replay.specs.Replay.{calls_below, with_replies, reply_at}
use Rattle.replay.specs.Lent.{resumes}

-- what `resume` ensures where it answers n
abbrev pub Resumed : List ℕ → List ℕ → List ℕ → List ℕ → ℕ → List ℕ → List ℕ → List ℕ → Type 0
Resumed words m calls replies n words' medium replies' =
    (n ≡ resumes words calls replies)
    × ((words' ≡ with_table words (after (lent words m) (calls_below calls n)).table)
    × ((medium ≡ (after (lent words m) (calls_below calls n)).medium)
    × (replies' ≡ with_replies (reply_at (lent words m) calls) n replies)))

module _ (words m calls replies : List ℕ) where
  -- none, from too few words
  pub none-resumed : length words < table_length → Resumed words m calls replies 0 words m replies
  unfolding resumes with_table turned after_turns calls_below with_replies
  none-resumed l = rw (lt-ltb (length words) table_length l) (refl, (refl, (refl, refl)))

  -- as many as there is room for, from a table
  pub room-resumed : (n : ℕ) → table_length ≤ length words → n ≡ room_for (length calls) (length replies) → n ≡ resumes words calls replies
  unfolding resumes
  room-resumed n l o = o ∙ rw (le-ltb (length words) table_length l)
