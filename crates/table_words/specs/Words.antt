-- A table lent as words, the layout by which other programs hand one over. It has 1,035 words:
--
--   word   0              capacity
--   word   1              salt
--   word   2              count
--   words  3 to  258      weights
--   words  259 to  514    used
--   words  515 to  770    numerators
--   words  771 to 1026    denominators
--   words 1027 to 1034    counters, tenant 0 first
use Rattle.std.specs.Prelude.{ℕ, ◌+◌, cond, List, [], ◌∷◌, ◌++◌, length, take, drop, ltb}
use Rattle.limits.specs.Limits.{max_servers, tenants}
use Rattle.lists.specs.Below.{nth}
use Rattle.table.specs.declared.Table.{Table}
use Rattle.table.specs.declared.Shape.{Shape}
use Rattle.table.specs.Parts.{table_by}

-- where each number stands, each column and the counters begin, and how many words there are
abbrev pub capacity_offset : ℕ
capacity_offset = 0

abbrev pub salt_offset : ℕ
salt_offset = 1

abbrev pub count_offset : ℕ
count_offset = 2

abbrev pub weights_offset : ℕ
weights_offset = 3

abbrev pub used_offset : ℕ
used_offset = weights_offset + max_servers

abbrev pub numerators_offset : ℕ
numerators_offset = used_offset + max_servers

abbrev pub denominators_offset : ℕ
denominators_offset = numerators_offset + max_servers

abbrev pub counters_offset : ℕ
counters_offset = denominators_offset + max_servers

abbrev pub table_length : ℕ
table_length = counters_offset + tenants

-- the column that begins at a word
abbrev pub column_from : List ℕ → ℕ → List ℕ
column_from words at = take max_servers (drop at words)

-- the counters
abbrev pub counters_from : List ℕ → List ℕ
counters_from words = take tenants (drop counters_offset words)

-- its numbers that are not one for each server or tenant
abbrev pub shape_from : List ℕ → Shape
shape_from words = record { capacity = nth words capacity_offset; salt = nth words salt_offset; count = nth words count_offset }

unfoldable pub table_from : List ℕ → Table
table_from words =
    table_by
    (shape_from words)
    (column_from words weights_offset)
    (column_from words used_offset)
    (column_from words numerators_offset)
    (column_from words denominators_offset)
    (counters_from words)

unfoldable pub words_of : Table → List ℕ
words_of t =
    (t.capacity ∷ t.salt ∷ t.count ∷ []) ++ t.weights ++ t.used ++ t.numerators ++ t.denominators ++ t.counters

-- the words with a table in front, and the words as lent where they are too few for one
unfoldable pub with_table : List ℕ → Table → List ℕ
with_table words t = cond (ltb (length words) table_length) words (words_of t ++ drop table_length words)
