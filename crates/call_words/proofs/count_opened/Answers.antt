-- `call_words::count_opened` meets its contract: the counters are a part of the words.
use native.Mathlib.Omega.{arith}
use Rattle.table_words.specs.Words.{table_from}
use Rattle.upkeep.specs.Upkeep.{with_opened}
use Rattle.call_words.proofs.Columns.{counters-stored}
use Rattle.call_words.proofs.count_opened.Goals as goal

pub returns : goal.returns
unfolding table_from with_opened
returns c =
    counters-stored c.args.words.now _ _ (omega (arith, c.told-words)) c.count.ensures
