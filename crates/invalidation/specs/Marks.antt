-- The marks that a write and a delete burn.
use Rattle.std.specs.Prelude.{ℕ, ◌&&◌, List, leb}
use Rattle.medium.specs.Burn.{marks_over}
use Rattle.table.specs.declared.Table.{Table}
use Rattle.table.specs.Parts.{used_of, reads}

-- the marks of an id's live entries on the readable servers from this one up
abbrev pub marks_from : Table → List ℕ → ℕ → ℕ → List ℕ
marks_from t m id from = marks_over t.capacity (used_of t) m id (λ k. leb from k && reads t id k) t.count
