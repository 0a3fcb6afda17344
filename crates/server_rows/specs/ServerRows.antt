-- The rows of refusals of start, add_server and reweight in the order of the tests (document 01, "The calls" and its table of
-- refusals; document 02, item 4). t is the table and m the medium as lent.
use Rattle.std.specs.Prelude.{ℕ, suc, ◌-◌, not, List, [], ◌∷◌, length, leb, ltb, eqb}
use Rattle.limits.specs.Limits.{max_servers}
use Rattle.medium.specs.Entry.{server_words, server_at, blank_run}
use Rattle.table.specs.declared.Table.{Table}
use Rattle.table.specs.Parts.{entries_of, used_of}
use Rattle.table.specs.Sound.{in_range, sound}
use Rattle.replies.specs.Refusal.{Row, ◌when◌}

unfoldable pub start_rows : ℕ → ℕ → List Row
start_rows capacity salt = 2 when not (in_range capacity salt) ∷ []

-- add_server, the paper's fit
unfoldable pub add_server_rows : Table → List ℕ → ℕ → List Row
add_server_rows t m weight =
    1 when not (sound t)
    ∷ 2 when ltb (entries_of t) weight
    ∷ 4 when eqb t.count max_servers
    ∷ 5 when ltb (length m) (server_at t.capacity (suc t.count))
    ∷ 7 when not (blank_run m (server_at t.capacity t.count) (server_words t.capacity))
    ∷ []

-- reweight, the paper's weigh: it has no medium
unfoldable pub reweight_rows : Table → ℕ → ℕ → List Row
reweight_rows t server weight =
    1 when not (sound t)
    ∷ 2 when ltb (entries_of t) weight
    ∷ 3 when leb t.count server
    ∷ 9 when ltb (entries_of t - used_of t server) weight
    ∷ []
