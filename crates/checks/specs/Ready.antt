-- The refusals that write, delete, lookup and a batch share (document 01's table, and 11 of document 02), as rows in the order of
-- the tests: the table, the range of the arguments, the id's tenant, a server, and enough words. t is the table and m the medium as
-- lent.
use Rattle.std.specs.Prelude.{ℕ, Bool, not, ◌||◌, List, [], ◌∷◌, length, ltb, eqb}
use Rattle.tenants.specs.Tenant.{out_of_range, of_another}
use Rattle.medium.specs.Entry.{server_at}
use Rattle.table.specs.declared.Table.{Table}
use Rattle.table.specs.Sound.{sound}
use Rattle.replies.specs.Refusal.{Row, ◌when◌}

-- the medium has fewer words than the servers
unfoldable pub short : Table → List ℕ → Bool
short t m = ltb (length m) (server_at t.capacity t.count)

-- `outside` says whether an argument of the call is out of range, `other` whether its id is another tenant's
unfoldable pub ready_rows : Table → List ℕ → Bool → Bool → List Row
ready_rows t m outside other =
    1 when not (sound t)
    ∷ 2 when outside
    ∷ 11 when other
    ∷ 3 when eqb t.count 0
    ∷ 5 when short t m
    ∷ []

-- the rows of a call that a tenant makes for an id; `outside` says whether another argument of the call is out of range
unfoldable pub asked_rows : Table → List ℕ → ℕ → ℕ → Bool → List Row
asked_rows t m tenant id outside = ready_rows t m (outside || out_of_range tenant id) (of_another tenant id)
