-- A whole sheet: input bytes to output bytes over a lent medium.
use Rattle.std.specs.Prelude.{ℕ, ◌*◌, cond, List, [], ◌∷◌, ◌++◌, length, ltb, eqb, None}
use Rattle.parsing.specs.Line.{line_of}
use Rattle.printing.specs.Print.{longest_line, question}
use Rattle.sheet_start.specs.SheetStart.{Sheet, Done}
use Rattle.line_run.specs.LineRun.{line_run}

-- the lines of an input: each LF ends one, and bytes after the last LF are a line too
unfoldable pub longer : ℕ → List (List ℕ) → List (List ℕ)
longer b [] = (b ∷ []) ∷ []
longer b (l ∷ rest) = (b ∷ l) ∷ rest

unfoldable pub lines_of : List ℕ → List (List ℕ)
lines_of [] = []
lines_of (b ∷ rest) = cond (eqb b 10) ([] ∷ lines_of rest) (longer b (lines_of rest))

unfoldable pub run : Sheet → List (List ℕ) → Done
run s [] = record { bytes = []; sheet = s }
run s (l ∷ rest) =
    let d = line_run s (line_of l) in
    let r = run d.sheet rest in
    record { bytes = d.bytes ++ r.bytes; sheet = r.sheet }

-- bytes of the longest input; a longer one prints one question mark only
abbrev pub max_input : ℕ
max_input = 65536

unfoldable pub output_of : List ℕ → List ℕ → Done
output_of input m =
    let s : Sheet = record { table = None; medium = m } in
    cond (ltb max_input (length input)) (record { bytes = question; sheet = s }) (run s (lines_of input))

-- how many bytes of output an input of n bytes needs at most
unfoldable pub output_room : ℕ → ℕ
output_room n = cond (ltb max_input n) (length question) (longest_line * n)
