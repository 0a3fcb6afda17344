-- The counters of opened servers (document 02, item 5: shelves opened, club by club), on plain numbers. A table has eight, one for
-- each tenant.
use Rattle.std.specs.Prelude.{ℕ, ◌+◌, min, max, Bool, List, set, leb}
use Rattle.limits.specs.Limits.{tenants, max_counter}
use Rattle.lists.specs.Below.{nth, all_below}

-- a counter grows by the servers opened, and stops at its bound; one above its bound, which no sound table has, stays as it is
unfoldable pub grown : ℕ → ℕ → ℕ
grown counter opened = max counter (min max_counter (counter + opened))

-- the counters after servers were opened for a tenant; a number that is no tenant's has no counter
unfoldable pub counted : List ℕ → ℕ → ℕ → List ℕ
counted counters tenant opened = set counters tenant (grown (nth counters tenant) opened)

-- no counter is above its bound
unfoldable pub in_bounds : List ℕ → Bool
in_bounds counters = all_below (λ tenant. leb (nth counters tenant) max_counter) tenants
