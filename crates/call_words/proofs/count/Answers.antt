-- `call_words::count` meets its contract: the column of the entries used is a part of the words.
use Rattle.table_words.specs.Words.{used_offset}
use Rattle.call_words.proofs.Columns.{column-stored}
use Rattle.call_words.proofs.count.Goals as goal

pub returns : goal.returns
returns c = column-stored c.args.words.now _ _ used_offset c.count_write.ensures
