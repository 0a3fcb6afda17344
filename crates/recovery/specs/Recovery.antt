-- Recover, the new call of document 02, item 7: every server's used from the words. t is the table and m the medium as lent.
use Rattle.std.specs.Prelude.{ℕ, zero, suc, Bool, cond, not, List, [], ◌∷◌}
use Rattle.lists.specs.Below.{set_below}
use Rattle.medium.specs.Entry.{entry_words, entry_at, blank_run}
use Rattle.table.specs.declared.Table.{Table}
use Rattle.table.specs.Parts.{shape_of, table_by}
use Rattle.table.specs.Sound.{sound}
use Rattle.replies.specs.Refusal.{Row, ◌when◌, settle}
use Rattle.replies.specs.declared.Reply.{Reply}
use Rattle.replies.specs.Reply.{accepted, reply_by}
use Rattle.checks.specs.Ready.{short}

-- one past the last number below n that passes, or 0
unfoldable pub past_last : (ℕ → Bool) → ℕ → ℕ
past_last p zero = 0
past_last p (suc n) = cond (p n) (suc n) (past_last p n)

-- entry j of server k has a word that is not blank
unfoldable pub touched : ℕ → List ℕ → ℕ → ℕ → Bool
touched capacity m k j = not (blank_run m (entry_at capacity k j) entry_words)

-- a server's used by the words: one past its last such entry, or 0
unfoldable pub used_on : ℕ → List ℕ → ℕ → ℕ
used_on capacity m k = past_last (touched capacity m k) capacity

-- the table with another used for each server that is there; nothing else of it changes
unfoldable pub with_used : Table → (ℕ → ℕ) → Table
with_used t f = table_by (shape_of t) t.weights (set_below f t.count t.used) t.numerators t.denominators t.counters

unfoldable pub recover_rows : Table → List ℕ → List Row
recover_rows t m = 1 when not (sound t) ∷ 5 when short t m ∷ []

unfoldable pub recover_reply : Table → List ℕ → Reply
recover_reply t m = reply_by (recover_rows t m) accepted

unfoldable pub recover_table : Table → List ℕ → Table
recover_table t m = settle (recover_rows t m) (with_used t (used_on t.capacity m)) t
