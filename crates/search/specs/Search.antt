-- The search of a lookup: which servers it opens, in order, and the entry that it meets.
use Rattle.std.specs.Prelude.{ℕ, zero, suc, length, cond, List, [], ◌∷◌, Option, None, Some}
use Rattle.lists.specs.Below.{highest}
use Rattle.medium.specs.Entry.{live}
use Rattle.table.specs.declared.Table.{Table}
use Rattle.table.specs.Parts.{used_of, reads}
use Rattle.search.specs.declared.SearchAnswer.{SearchAnswer}
use Rattle.search.specs.declared.Place.{Place}

pub record Search : Type 0 where
  pub opened : List ℕ
  pub met : Option Place

-- the highest-numbered live entry of an id on server k
unfoldable pub last_live : Table → List ℕ → ℕ → ℕ → Option ℕ
last_live t m id k = highest (live t.capacity (used_of t k) m id k) (used_of t k)

-- server k is opened: the search ends there at a live entry, and goes on below it if there is none
unfoldable pub opening : ℕ → Option ℕ → Search → Search
opening k (Some j) below = record { opened = k ∷ []; met = Some (record { server = k; entry = j }) }
opening k None below = record { opened = k ∷ below.opened; met = below.met }

-- the readable servers below n, from the highest down to the first with a live entry
unfoldable pub search_below : Table → List ℕ → ℕ → ℕ → Search
search_below t m id zero = record { opened = []; met = None }
search_below t m id (suc k) = cond (reads t id k) (opening k (last_live t m id k) (search_below t m id k)) (search_below t m id k)

unfoldable pub search_for : Table → List ℕ → ℕ → Search
search_for t m id = search_below t m id t.count

-- what the running search answers: the entry met, if any, and how many servers it opened
unfoldable pub answer_of : Search → SearchAnswer
answer_of s = record { met = s.met; opened = length s.opened }
