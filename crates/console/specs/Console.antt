-- What a sheet from standard input prints.
use Rattle.std.specs.Prelude.{ℕ, List, take, Option, None, Some}
use Rattle.printing.specs.Print.{question}
use Rattle.sheet_start.specs.SheetStart.{Done}
use Rattle.sheet.specs.Sheet.{output_of}

-- the output of the bytes read; where reading failed nothing is run, and one question mark is printed
unfoldable pub answer_to : Option ℕ → List ℕ → List ℕ → Done
answer_to (Some n) input m = output_of (take n input) m
answer_to None input m = record { bytes = question; sheet = record { table = None; medium = m } }
