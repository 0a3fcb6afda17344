-- A table put together of the arrays that are read out of words is the table lent as them.
-- Assumes nothing.
use Prim.Native.Nat.{ℕ}
use mathlib.Core.Path.{◌≡◌}
use mathlib.Core.List.{List}
use Rattle.lists.proofs.Arrays.{array_at, array_at-whole}
use Rattle.table.specs.declared.Shape.{Shape}
use Rattle.table.specs.Parts.{table_by}
use Rattle.table_words.specs.Words.{weights_offset, used_offset, numerators_offset, denominators_offset, shape_from, counters_from, table_from}

pub read_table : (words : List ℕ) (shape : Shape) (weights used numerators denominators counters : List ℕ)
    → shape ≡ shape_from words → weights ≡ array_at 256 words weights_offset 256 → used ≡ array_at 256 words used_offset 256
    → numerators ≡ array_at 256 words numerators_offset 256 → denominators ≡ array_at 256 words denominators_offset 256 → counters ≡ counters_from words
    → table_by shape weights used numerators denominators counters ≡ table_from words
unfolding table_from
read_table words shape weights used numerators denominators counters s a b c d e =
    let whole = array_at-whole 256 words in
    rw (s, a, b, c, d, e, whole weights_offset, whole used_offset, whole numerators_offset, whole denominators_offset)
