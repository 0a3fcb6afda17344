-- The functions for other languages that are not those of another crate under their names: the version, and a start.
use Rattle.std.specs.Prelude.{ℕ, cond, List, length, leb}
use Rattle.table_words.specs.Words.{table_length}
use Rattle.servers.specs.Servers.{start_reply}
use Rattle.encoding.specs.Encoding.{too_short}

-- the version of the interface: it grows when a signature or an encoding changes
abbrev pub version : ℕ
version = 6

-- the number that a start answers, by the words lent for its table
unfoldable pub start_number : ℕ → ℕ → List ℕ → ℕ
start_number capacity salt table = cond (leb table_length (length table)) (start_reply capacity salt).refusal too_short
