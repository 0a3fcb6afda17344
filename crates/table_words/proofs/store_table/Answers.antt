-- `table_words::store_table` meets its contract: three words, four columns and the counters.
use borrow.Author.Rules.{rules}
use native.Mathlib.Omega.{arith}
use Rattle.table.proofs.Soundness.{Arrays}
use Rattle.table_words.proofs.Lent.{stored-table}
use Rattle.table_words.proofs.store_table.Goals as goal

pub returns : goal.returns
returns c =
    stored-table c.args.words.now c.args.table.now _ _ _ _ _ (omega (arith, c.told-words)) ((let arrays' : Arrays c.args.table.now = search rules in arrays')) c.store_array.ensures c.store_array-2.ensures c.store_array-3.ensures c.store_array-4.ensures c.store_array-5.ensures
