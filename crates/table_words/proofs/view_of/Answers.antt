-- `table_words::view_of` meets its contract: the shape, four columns and the counters.
use Rattle.table_words.specs.Words.{table_from}
use Rattle.table_words.proofs.view_of.Goals as goal

pub returns-clause-table : goal.returns-clause-table
unfolding table_from
returns-clause-table c = cc
