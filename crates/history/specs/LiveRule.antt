-- When an accepted write's entry is live, by the calls alone. It is for lists of calls, in which nothing crashes: a crash may leave
-- entries live that this rule takes away.
use Rattle.std.specs.Prelude.{ℕ, Bool, true, not, ◌&&◌, ◌||◌, ◌≡◌, List, [], ◌∷◌, ◌++◌, ltb, eqb}
use Rattle.medium.specs.Entry.{live}
use Rattle.table.specs.Parts.{used_of}
use Rattle.history.specs.Call.{Call}
use Rattle.history.specs.Machine.{State, after, begin}
use Rattle.history.specs.Ledger.{Event, wrote, removed, spent, fresh_ledger, used_by, ledger_after}

-- among the later events there is no delete of the id and no write of it to the same or a lower server
unfoldable pub stays_live : ℕ → ℕ → List Event → Bool
stays_live id server [] = true
stays_live id server (wrote a value k ∷ newer) = (not (eqb a id) || ltb server k) && stays_live id server newer
stays_live id server (removed a ∷ newer) = not (eqb a id) && stays_live id server newer
stays_live id server (spent k ∷ newer) = stays_live id server newer

-- entry j of server k is live for an id
abbrev pub live_in : State → ℕ → ℕ → ℕ → Bool
live_in S id k j = live S.table.capacity (used_of S.table k) S.medium id k j

-- after the list each accepted write's entry is live for its id exactly when it stays so by the later events
pub record LiveRule (capacity salt n : ℕ) (calls : List Call) : Type 0 where
  pub rule : (newer older : List Event) (id value server : ℕ)
      → (ledger_after (fresh_ledger capacity salt n) calls).events ≡ newer ++ (wrote id value server ∷ older)
      → live_in (after (begin capacity salt n) calls) id server (used_by older server) ≡ stays_live id server newer
