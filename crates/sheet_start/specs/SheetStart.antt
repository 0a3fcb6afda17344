-- A sheet, and a start on it (document 01, "The program", and document 02, item 4): what it prints, and the table in use and the
-- medium after it.
use Rattle.std.specs.Prelude.{ℕ, List, length, replicate, Option, Some}
use Rattle.medium.specs.Word.{blank}
use Rattle.table.specs.declared.Table.{Table}
use Rattle.replies.specs.Refusal.{settle}
use Rattle.server_rows.specs.ServerRows.{start_rows}
use Rattle.servers.specs.Servers.{start_reply, start_table}
use Rattle.letters.specs.Letter.{start_letter}
use Rattle.printing.specs.Print.{printed}

-- the table in use, none before the first accepted S, and the medium
pub record Sheet : Type 0 where
  pub table : Option Table
  pub medium : List ℕ

-- the sheet that running code holds
abbrev pub sheet_of : Option Table → List ℕ → Sheet
sheet_of t m = record { table = t; medium = m }

-- what a line prints, and the sheet after it
pub record Done : Type 0 where
  pub bytes : List ℕ
  pub sheet : Sheet

-- the salt of every table of a sheet: daysheet uses key 0
abbrev pub sheet_salt : ℕ
sheet_salt = 0

-- an accepted S starts a table and blanks the words; a refused one keeps the table in use
unfoldable pub start_run : Sheet → ℕ → Done
start_run s capacity = record {
  bytes = printed start_letter (start_reply capacity sheet_salt).refusal 0 0;
  sheet = settle (start_rows capacity sheet_salt) (record { table = Some (start_table capacity sheet_salt); medium = replicate (length s.medium) blank }) s;
}
