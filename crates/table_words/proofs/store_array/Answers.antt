-- `table_words::store_array` meets its contract. The invariant: the words passed are stored.
use borrow.Author.Rules.{rules}
use native.Mathlib.Numerals.{add-one}
use lib.Seq.{paste-suc}
use Rattle.table_words.proofs.store_array.Goals as goal

pub loop-k-preserved : goal.loop-k-preserved
loop-k-preserved c =
    let a = c.args in
    rw (c.loop-k.invariant, add-one c.loop-k.k) (paste-suc a.words.now a.from a.array.now c.loop-k.k 0 (search rules) (search rules))
