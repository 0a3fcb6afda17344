-- A batch of lookups (document 02, items 1, 2 and 5): the answers that single lookups on the same table and medium give, the
-- servers that these open, and the table that it leaves.
use Rattle.std.specs.Prelude.{ℕ, Bool, false, cond, not, ◌&&◌, List, [], ◌∷◌, ◌≡◌, length}
use Rattle.lists.specs.Below.{nth, total}
use Rattle.table.specs.declared.Table.{Table}
use Rattle.table.specs.Sound.{sound}
use Rattle.upkeep.specs.Upkeep.{with_opened}
use Rattle.replies.specs.Refusal.{Row, ◌when◌, settle}
use Rattle.search.specs.Opened.{opens}
use Rattle.lookup.specs.Lookup.{lookup_rows, lookup_reply, lookup_table}
use Rattle.batch_answer.specs.Answer.{BatchReply, batch_by, opened_in, too_long, settled_batch}

-- a single lookup opens server k; one that is refused before its search opens none
unfoldable pub lookup_opens : Table → List ℕ → ℕ → ℕ → ℕ → Bool
lookup_opens t m tenant id k = settle (lookup_rows t m tenant id) (opens t m id k) false

-- the same by the id's position
unfoldable pub opened_at : Table → List ℕ → ℕ → List ℕ → ℕ → ℕ → Bool
opened_at t m tenant ids i k = lookup_opens t m tenant (nth ids i) k

-- a list that is too long is refused by the lowest number that applies; any other one is not refused as a whole
unfoldable pub batch_rows : Table → List ℕ → List Row
batch_rows t ids =
    1 when (too_long ids && not (sound t))
    ∷ 2 when too_long ids
    ∷ []

-- the number of that refusal
unfoldable pub long_number : Table → ℕ
long_number t = cond (sound t) 2 1

-- the whole answer to a tenant
unfoldable pub batch_reply : Table → List ℕ → ℕ → List ℕ → BatchReply
batch_reply t m tenant ids =
    settled_batch (batch_rows t ids)
    (batch_by
    (λ i. (lookup_reply t m tenant (nth ids i)).refusal)
    (λ i. (lookup_reply t m tenant (nth ids i)).value)
    (λ i. (lookup_reply t m tenant (nth ids i)).opened)
    (opened_at t m tenant ids)
    (length ids)
    t.count)

-- the caller's counter takes the opened counts of all ids; a list that is refused as a whole has none
unfoldable pub batch_table : Table → List ℕ → ℕ → List ℕ → Table
batch_table t m tenant ids = with_opened t tenant (opened_in (batch_reply t m tenant ids))

-- the table after single lookups of the ids, one after another
unfoldable pub singly : Table → List ℕ → ℕ → List ℕ → Table
singly t m tenant [] = t
singly t m tenant (id ∷ ids) = singly (lookup_table t m tenant id) m tenant ids

-- what a batch counts is what its single lookups would count
pub record CountsSingly (t : Table) (m : List ℕ) (tenant : ℕ) (ids : List ℕ) : Type 0 where
  -- the opened counts of single lookups on the table as lent
  pub opened : opened_in (batch_reply t m tenant ids) ≡ total (λ i. (lookup_reply t m tenant (nth ids i)).opened) (length ids)
  -- and the table that single lookups leave, each on the table as the one before left it
  pub table : batch_table t m tenant ids ≡ singly t m tenant ids
