-- Which server a write goes to, and its rows of refusals in the order of the tests (document 01, "The calls" and its table of
-- refusals; document 02, item 2). t is the table and m the medium as lent.
use Rattle.std.specs.Prelude.{ℕ, not, List, [], ◌∷◌, ◌++◌, leb, eqb}
use Rattle.limits.specs.Limits.{content_range}
use Rattle.placement.specs.Rule.{write_server}
use Rattle.medium.specs.Entry.{entry_words, entry_at, blank_run}
use Rattle.table.specs.declared.Table.{Table}
use Rattle.table.specs.Parts.{entries_of, weight_of, used_of}
use Rattle.replies.specs.Refusal.{Row, ◌when◌}
use Rattle.checks.specs.Ready.{asked_rows}

-- the server that a write goes to; its entry there is the server's used
unfoldable pub target : Table → ℕ → ℕ
target t id = write_server (weight_of t) t.count t.salt id

-- what only a write tests: whether its server is full, and whether a word of its entry there is not blank
unfoldable pub entry_rows : Table → List ℕ → ℕ → List Row
entry_rows t m id =
    let k = target t id in
    6 when eqb (used_of t k) (entries_of t)
    ∷ 7 when not (blank_run m (entry_at t.capacity k (used_of t k)) entry_words)
    ∷ []

-- the caller's tenant, the id, and the value
unfoldable pub write_rows : Table → List ℕ → ℕ → ℕ → ℕ → List Row
write_rows t m tenant id value = asked_rows t m tenant id (leb content_range value) ++ entry_rows t m id
