-- `table_words::store_array` meets its contract. The invariant: the words passed are stored.
use mathlib.Core.Path.{◌≡◌}
use lib.Seq.{paste}
use Rattle.table_words.proofs.store_array.Given as goal

abbrev pub invariant-loop-k : goal.invariant-loop-k
invariant-loop-k l = l.words ≡ paste l.initial.words l.from l.array l.k
