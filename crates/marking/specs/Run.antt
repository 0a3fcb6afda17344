-- The entries of a run of words that bear an id, for the contracts of the functions that mark them.
use Rattle.std.specs.Prelude.{ℕ, zero, suc, ◌+◌, ◌*◌, cond, List, [], ◌∷◌, ◌++◌}
use Rattle.medium.specs.Entry.{entry_words, mark_place, bears_at}

-- the addresses of the marks of those of n entries from an address on that bear an id, the lowest first
unfoldable pub marks_in : List ℕ → ℕ → ℕ → ℕ → List ℕ
marks_in m id from zero = []
marks_in m id from (suc n) = marks_in m id from n ++ cond (bears_at m id (from + entry_words * n)) ((from + entry_words * n + mark_place) ∷ []) []
