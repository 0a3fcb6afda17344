-- Shelves opened, club by club (document 02, item 5): what the counters are after every list of turns, crashed calls among them, what
-- a refused call changes, and that no call answers by a counter.
use Rattle.std.specs.Prelude.{ℕ, ◌+◌, ◌<◌, min, true, cond, ◌≡◌, ◌≢◌, List, [], ◌∷◌, eqb}
use Rattle.limits.specs.Limits.{tenants, max_counter}
use Rattle.table.specs.declared.Table.{Table}
use Rattle.table.specs.Parts.{with_counters, opened_of}
use Rattle.table.specs.Sound.{sound}
use Rattle.upkeep.specs.Upkeep.{with_opened}
use Rattle.lookup.specs.Lookup.{lookup_reply}
use Rattle.batch_answer.specs.Answer.{opened_in}
use Rattle.batch.specs.Batch.{batch_reply}
use Rattle.history.specs.Call.{Call, add_server, reweight, write, delete, lookup, batch, Turn, plain, crashed_write, crashed_delete}
use Rattle.history.specs.Machine.{State, reply, next, turned, after_turns, turn_replies, start_state}

-- the opened counts that a call answers to a tenant: those of its lookups, and those of the ids of its batches
unfoldable pub opened_to : ℕ → State → Call → ℕ
opened_to tenant S (add_server weight) = 0
opened_to tenant S (reweight server weight) = 0
opened_to tenant S (write caller id value) = 0
opened_to tenant S (delete caller id) = 0
opened_to tenant S (lookup caller id) = cond (eqb caller tenant) (lookup_reply S.table S.medium caller id).opened 0
opened_to tenant S (batch caller ids) = cond (eqb caller tenant) (opened_in (batch_reply S.table S.medium caller ids)) 0

-- a crashed call opens none
unfoldable pub opened_in_turn : ℕ → State → Turn → ℕ
opened_in_turn tenant S (plain c) = opened_to tenant S c
opened_in_turn tenant S (crashed_write caller id value n beam) = 0
opened_in_turn tenant S (crashed_delete caller id n beam) = 0

-- and their sum over a list of turns, run from a state
unfoldable pub opened_by : ℕ → State → List Turn → ℕ
opened_by tenant S [] = 0
opened_by tenant S (x ∷ turns) = opened_in_turn tenant S x + opened_by tenant (turned S x) turns

-- after a list of turns on a fresh table, over a medium of any words, a tenant's counter is the smaller of its bound and that sum
pub record Counters (capacity salt : ℕ) (m : List ℕ) (turns : List Turn) : Type 0 where
  pub counter : (tenant : ℕ) → tenant < tenants
      → opened_of (after_turns (start_state capacity salt m) turns).table tenant ≡ min max_counter (opened_by tenant (start_state capacity salt m) turns)

-- the table that a refused call leaves: a lookup counts for its caller the servers that it opened; every other call leaves it as lent
unfoldable pub left_by : State → Call → Table
left_by S (add_server weight) = S.table
left_by S (reweight server weight) = S.table
left_by S (write caller id value) = S.table
left_by S (delete caller id) = S.table
left_by S (lookup caller id) = with_opened S.table caller (lookup_reply S.table S.medium caller id).opened
left_by S (batch caller ids) = S.table

-- a refused call leaves medium and table as lent, but for the counters where it is a lookup that opened servers
pub record Refused (S : State) (c : Call) : Type 0 where
  pub medium : (reply S c).refusal ≢ 0 → (next S c).medium ≡ S.medium
  pub table : (reply S c).refusal ≢ 0 → (reply S c).opened ≡ 0 → (next S c).table ≡ S.table
  pub others : (reply S c).refusal ≢ 0 → with_counters (next S c).table S.table.counters ≡ S.table
  pub exact : (reply S c).refusal ≢ 0 → (next S c).table ≡ left_by S c

-- two states that differ in the counters alone
pub record Apart (S T : State) : Type 0 where
  pub table : T.table ≡ with_counters S.table T.table.counters
  pub medium : T.medium ≡ S.medium

-- a list of turns gets the same replies from both, a batch after it the same answer, and they differ in the counters alone again
pub record Answered (S T : State) (turns : List Turn) : Type 0 where
  pub same : turn_replies T turns ≡ turn_replies S turns
  pub batches : (tenant : ℕ) (ids : List ℕ)
      → batch_reply (after_turns T turns).table (after_turns T turns).medium tenant ids
      ≡ batch_reply (after_turns S turns).table (after_turns S turns).medium tenant ids
  pub apart : Apart (after_turns S turns) (after_turns T turns)

-- it is so where both tables are sound
pub record Unread (S T : State) (turns : List Turn) : Type 0 where
  pub unread : Apart S T → sound S.table ≡ true → sound T.table ≡ true → Answered S T turns
