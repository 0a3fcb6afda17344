-- Recover on a table lent as words: the number that it answers, and the words after it. Where they are too few for a table it
-- answers a number that no call gives, and they are left as lent.
use Rattle.std.specs.Prelude.{ℕ, cond, List, length, leb}
use Rattle.table_words.specs.Words.{table_length, table_from, with_table}
use Rattle.recovery.specs.Recovery.{recover_reply, recover_table}
use Rattle.encoding.specs.Encoding.{too_short}

unfoldable pub recover_number : List ℕ → List ℕ → ℕ
recover_number table m = cond (leb table_length (length table)) (recover_reply (table_from table) m).refusal too_short

unfoldable pub after_recover : List ℕ → List ℕ → List ℕ
after_recover table m = with_table table (recover_table (table_from table) m)
