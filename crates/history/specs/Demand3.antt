-- The third demand: what holds after every list of turns, batches of lookups and crashed calls among them, from a fresh table and
-- blank words. A call of any tenant may come anywhere in the list, and crashes may follow one another in any number.
use Rattle.std.specs.Prelude.{ℕ, ◌+◌, ◌≤◌, ◌<◌, Bool, true, not, ◌&&◌, ◌≡◌, ◌↔◌, ◌≢◌, ◌⊎◌, List, [], ◌∷◌, ◌++◌, map, length, eqb}
use Rattle.limits.specs.Limits.{content_range}
use Rattle.lists.specs.Below.{nth}
use Rattle.tenants.specs.Tenant.{tenant_of}
use Rattle.medium.specs.Word.{id_word, value_word, blank}
use Rattle.medium.specs.Entry.{entry_words, entry_at, value_at}
use Rattle.replies.specs.declared.Reply.{Reply}
use Rattle.replies.specs.Reply.{accepted}
use Rattle.lookup.specs.Lookup.{lookup_reply}
use Rattle.batch.specs.Batch.{batch_reply}
use Rattle.recovery.specs.Recovery.{recover_reply}
use Rattle.history.specs.Beam.{Beam}
use Rattle.history.specs.Call.{Call, batch, Turn, plain, crashed_write, crashed_delete, Heard, compared}
use Rattle.history.specs.Machine.{State, refusals, crash_write, crash_delete, recovered, turned, after_turns, turn_replies, begin, live_entries}
use Rattle.history.specs.Hearing.{hears}
use Rattle.history.specs.Ledger.{Event, wrote, removed, spent, Ledger, fresh_ledger, entries_l, used_by, batch_l, ledger_by, replies_by, writes_by}

-- none of these events is of the id
unfoldable pub untouched : ℕ → List Event → Bool
untouched id [] = true
untouched id (wrote a value server ∷ older) = not (eqb a id) && untouched id older
untouched id (removed a ∷ older) = not (eqb a id) && untouched id older
untouched id (spent server ∷ older) = untouched id older

-- the events have an accepted write of the id, and after it no write and no delete of that id
pub record LastWrite (events : List Event) (id value server : ℕ) : Type 0 where
  pub newer : List Event
  pub older : List Event
  pub split : events ≡ newer ++ (wrote id value server ∷ older)
  pub clear : untouched id newer ≡ true

-- entry j of a server that is there has the id and the value of a write
pub record OnMedium (state : State) (ledger : Ledger) (id value server j : ℕ) : Type 0 where
  pub there : server < ledger.servers
  pub inside : j < entries_l ledger
  pub id_there : nth state.medium (entry_at ledger.capacity server j) ≡ id_word id
  pub value_there : nth state.medium (value_at ledger.capacity server j) ≡ value_word value

-- what a lookup by the id's own tenant replies
abbrev pub looked_up_in : State → ℕ → Reply
looked_up_in state id = lookup_reply state.table state.medium (tenant_of id) id

module _ (capacity salt n : ℕ) (turns : List Turn) where
  -- the state after the list, what the ledger heard, and the ledger then
  abbrev pub state_then : State
  state_then = after_turns (begin capacity salt n) turns

  abbrev pub heard_then : List Heard
  heard_then = hears (begin capacity salt n) (fresh_ledger capacity salt n) turns

  abbrev pub ledger_then : Ledger
  ledger_then = ledger_by (fresh_ledger capacity salt n) heard_then

module _ (capacity salt n : ℕ) (turns : List Turn) where
  abbrev state : State
  state = state_then capacity salt n turns

  abbrev ledger : Ledger
  ledger = ledger_then capacity salt n turns

  abbrev looked_up : ℕ → Reply
  looked_up id = looked_up_in state id

  -- the state after the list and one crash more
  abbrev write_crashed : ℕ → ℕ → ℕ → ℕ → Beam → State
  write_crashed tenant id value burns beam = turned state (crashed_write tenant id value burns beam)

  abbrev delete_crashed : ℕ → ℕ → ℕ → Beam → State
  delete_crashed tenant id burns beam = turned state (crashed_delete tenant id burns beam)

  pub record Demand3 : Type 0 where
    -- each call that did not crash answers with the refusal number, server, value and opened count that the ledger gives
    pub alike : map compared (turn_replies (begin capacity salt n) turns) ≡ replies_by (fresh_ledger capacity salt n) (heard_then capacity salt n turns)
    -- and each batch of lookups with the ledger's whole answer
    pub batches : (before later : List Turn) (tenant : ℕ) (ids : List ℕ) → before ++ (plain (batch tenant ids) ∷ later) ≡ turns
        → batch_reply (state_then capacity salt n before).table (state_then capacity salt n before).medium tenant ids
        ≡ batch_l (ledger_then capacity salt n before) tenant ids
    -- a lookup by the id's own tenant finds the value of the last accepted write of the id with no accepted delete afterwards
    pub finds : (id value server : ℕ) → LastWrite ledger.events id value server
        → ((looked_up id).refusal ≡ 0) × ((looked_up id).value ≡ value)
    -- and answers 'absent' exactly when there is no such write, once a server is there and for ids in range
    pub absent : (id : ℕ) → id < content_range → 0 < ledger.servers
        → ((looked_up id).refusal ≡ 8) ↔ ((value server : ℕ) → LastWrite ledger.events id value server → ⊥)
    -- every word that is not blank after some first part of the list stands unaltered after all of it
    pub unaltered : (before later : List Turn) → before ++ later ≡ turns → (a : ℕ)
        → nth (state_then capacity salt n before).medium a ≢ blank
        → nth state.medium a ≡ nth (state_then capacity salt n before).medium a
    -- id and value of each accepted write stand on the server that the ledger gave it, in the entry that was then its used
    pub on_medium : (newer older : List Event) (id value server : ℕ)
        → ledger.events ≡ newer ++ (wrote id value server ∷ older)
        → OnMedium state ledger id value server (used_by older server)
    -- which is its own: two accepted writes whose entries share a word of the medium, on any servers, are the same write
    pub own : (newer older newer' older' : List Event) (id value server id' value' server' : ℕ)
        → ledger.events ≡ newer ++ (wrote id value server ∷ older)
        → ledger.events ≡ newer' ++ (wrote id' value' server' ∷ older')
        → (a b : ℕ) → a < entry_words → b < entry_words
        → entry_at ledger.capacity server (used_by older server) + a ≡ entry_at ledger.capacity server' (used_by older' server') + b
        → length older ≡ length older'
    -- the live entries of all ids together are at most the accepted and the crashed writes together
    pub live : live_entries state ≤ writes_by (fresh_ledger capacity salt n) (heard_then capacity salt n turns)
    -- 1, 7 and 10 never come, as the refusal of a call or of an id of a batch
    pub never : (before later : List Turn) (c : Call) → before ++ (plain c ∷ later) ≡ turns → (i : ℕ)
        → let number = nth (refusals (state_then capacity salt n before) c) i in
        (number ≢ 1) × (number ≢ 7) × (number ≢ 10)
    -- one crash more, after any number of burns and with any word under the beam: a crashed write shows the id's old answer, opened
    -- count included, or the new value; a crashed delete the old answer or 'absent'
    pub write_shows : (tenant id value burns : ℕ) (beam : Beam)
        → let R = write_crashed tenant id value burns beam in
        (looked_up_in R id ≡ looked_up id) ⊎ (((looked_up_in R id).refusal ≡ 0) × ((looked_up_in R id).value ≡ value))
    pub delete_shows : (tenant id burns : ℕ) (beam : Beam)
        → let R = delete_crashed tenant id burns beam in
        (looked_up_in R id ≡ looked_up id) ⊎ ((looked_up_in R id).refusal ≡ 8)
    -- and all other ids show their old answers
    pub write_others : (tenant id value burns : ℕ) (beam : Beam) (other : ℕ) → other ≢ id
        → looked_up_in (write_crashed tenant id value burns beam) other ≡ looked_up other
    pub delete_others : (tenant id burns : ℕ) (beam : Beam) (other : ℕ) → other ≢ id
        → looked_up_in (delete_crashed tenant id burns beam) other ≡ looked_up other
    -- the recover made next after one crash more is accepted
    pub write_recovers : (tenant id value burns : ℕ) (beam : Beam)
        → let C = crash_write state tenant id value burns beam in recover_reply C.table C.medium ≡ accepted
    pub delete_recovers : (tenant id burns : ℕ) (beam : Beam)
        → let C = crash_delete state tenant id burns beam in recover_reply C.table C.medium ≡ accepted
    -- a recover where nothing crashed since the last one is accepted and changes nothing
    pub idle : (recover_reply state.table state.medium ≡ accepted) × (recovered state ≡ state)
