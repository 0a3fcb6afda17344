-- Which servers a lookup opens (the second demand), and what it means that the others have no bearing on its reply.
use Rattle.std.specs.Prelude.{ℕ, suc, ◌≤◌, ◌<◌, Bool, true, ◌&&◌, ◌≡◌, List, length, leb, Option, None, Some}
use Rattle.lists.specs.Below.{nth, downward, count_below}
use Rattle.medium.specs.Entry.{server_at, live}
use Rattle.table.specs.declared.Table.{Table}
use Rattle.table.specs.Parts.{weight_of, used_of, read_p, reads}
use Rattle.search.specs.declared.Place.{Place}
use Rattle.search.specs.Search.{search_for}

-- the entry met: on the highest readable server that has a live entry of the id, the highest-numbered one
pub record Met (t : Table) (m : List ℕ) (id : ℕ) (p : Place) : Type 0 where
  pub below : p.server < t.count
  pub is_read : reads t id p.server ≡ true
  pub is_live : live t.capacity (used_of t p.server) m id p.server p.entry ≡ true
  pub top : (k : ℕ) → k < t.count → reads t id k ≡ true
      → (j : ℕ) → live t.capacity (used_of t k) m id k j ≡ true
      → (k ≤ p.server) × (k ≡ p.server → j ≤ p.entry)

-- no readable server has a live entry of the id
pub record NoneMet (t : Table) (m : List ℕ) (id : ℕ) : Type 0 where
  pub nowhere : (k : ℕ) → k < t.count → reads t id k ≡ true
      → (j : ℕ) → live t.capacity (used_of t k) m id k j ≡ true → ⊥

-- the lowest server that a search which met this may open
unfoldable pub lowest : Option Place → ℕ
lowest None = 0
lowest (Some p) = p.server

-- a lookup opens server k: it is readable, and not below the server where the search ends
unfoldable pub opens : Table → List ℕ → ℕ → ℕ → Bool
opens t m id k = leb (lowest (search_for t m id).met) k && reads t id k

-- the servers opened are those, the highest first, and the opened count is their number
pub record Opened (t : Table) (m : List ℕ) (id : ℕ) : Type 0 where
  pub servers : (search_for t m id).opened ≡ downward (opens t m id) t.count
  pub number : length (search_for t m id).opened ≡ count_below (opens t m id) t.count

-- two tables and two media that are the same but for the used and the words of servers that the lookup does not open
pub record SameOpened (t u : Table) (m w : List ℕ) (id : ℕ) : Type 0 where
  pub capacity : t.capacity ≡ u.capacity
  pub salt : t.salt ≡ u.salt
  pub count : t.count ≡ u.count
  pub weights : (k : ℕ) → k < t.count → weight_of t k ≡ weight_of u k
  pub read_ps : (k : ℕ) → k < t.count → read_p t k ≡ read_p u k
  pub long : length m ≡ length w
  pub used : (k : ℕ) → k < t.count → opens t m id k ≡ true → used_of t k ≡ used_of u k
  pub words : (k a : ℕ) → k < t.count → opens t m id k ≡ true
      → server_at t.capacity k ≤ a → a < server_at t.capacity (suc k) → nth m a ≡ nth w a
