-- Calls run on a table lent as words, as crate table_words's Words.antt has it.
use Rattle.std.specs.Prelude.{ℕ, cond, List, length, ltb}
use Rattle.table_words.specs.Words.{table_length}
use Rattle.encoding.specs.Encoding.{room_for}

-- how many calls are run on it: none where there are too few words for a table
unfoldable pub resumes : List ℕ → List ℕ → List ℕ → ℕ
resumes words calls replies = cond (ltb (length words) table_length) 0 (room_for (length calls) (length replies))
