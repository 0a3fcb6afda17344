-- The words of the servers, read into the columns of a table that is there.
use Rattle.std.specs.Prelude.{ℕ, ◌+◌, List}
use Rattle.lists.specs.Below.{set_below}
use Rattle.table.specs.declared.Table.{Table}
use Rattle.table.specs.Parts.{table_by, shape_of}
use Rattle.image.specs.Layout.{weight_place, used_place, numerator_place, denominator_place, part_at}
use Rattle.image.specs.Decoding.{content_at}

-- a column with what stands at a place of each of the first n servers
abbrev pub column_over : List ℕ → ℕ → ℕ → List ℕ → List ℕ
column_over words place n column = set_below (λ k. content_at words (part_at k + place)) n column

-- a table with the numbers of the first n servers
abbrev pub with_servers : List ℕ → ℕ → Table → Table
with_servers words n t =
    table_by
    (shape_of t)
    (column_over words weight_place n t.weights)
    (column_over words used_place n t.used)
    (column_over words numerator_place n t.numerators)
    (column_over words denominator_place n t.denominators)
    t.counters
