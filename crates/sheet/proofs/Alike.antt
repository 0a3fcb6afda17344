-- The output is a function of the input's bytes: what the lent words hold has no bearing on it, only how many they are.
-- Assumes nothing.
use Prim.Native.Nat.{ℕ}
use mathlib.Core.Path.{◌≡◌, refl, ap}
use mathlib.Core.List.{List, [], ◌∷◌, ◌++◌}
use Rattle.std.specs.Prelude.{Option, None, Some}
use lib.ListN.{length, replicate}
use lib.Dec.{ltb, eqb}
use Rattle.lists.proofs.Tests.{by_bool}
use Rattle.medium.specs.Word.{blank}
use Rattle.replies.specs.Refusal.{first_of, settle}
use Rattle.server_rows.specs.ServerRows.{start_rows}
use Rattle.servers.specs.Servers.{start_table}
use Rattle.parsing.specs.declared.Line.{Line}
use Rattle.parsing.specs.declared.Line.TheVariants as line
use Rattle.parsing.specs.Line.{line_of}
use Rattle.printing.specs.Print.{question}
use Rattle.sheet_start.specs.SheetStart.{Sheet, sheet_salt, start_run}
use Rattle.sheet_call.specs.SheetCall.{call_run}
use Rattle.line_run.specs.LineRun.{line_run}
use Rattle.sheet.specs.Sheet.{lines_of, run, output_of}

abbrev fresh : List ℕ → Sheet
fresh m = record { table = None; medium = m }

-- an accepted start leaves both the same; every other line leaves both without a table
line-alike : (lines : List (List ℕ)) (m m' : List ℕ) → length m ≡ length m' → (run (fresh m) lines).bytes ≡ (run (fresh m') lines).bytes
    → (L : Option Line)
    → (line_run (fresh m) L).bytes ++ (run (line_run (fresh m) L).sheet lines).bytes ≡ (line_run (fresh m') L).bytes ++ (run (line_run (fresh m') L).sheet lines).bytes
unfolding line_run call_run start_run settle
line-alike lines m m' e h (Some (line.Start capacity)) = by_bool (eqb (first_of (start_rows capacity sheet_salt)) 0)
    (λ a. rw a (ap (λ (w : List ℕ). (line_run (fresh m) (Some (line.Start capacity))).bytes ++ (run (record { table = Some (start_table capacity sheet_salt); medium = w }) lines).bytes) (ap (λ (n : ℕ). replicate n blank) e)))
    (λ r. rw (r, h))
line-alike lines m m' e h (Some (line.Call call)) = ap (λ (x : List ℕ). question ++ x) h
line-alike lines m m' e h None = ap (λ (x : List ℕ). question ++ x) h

run-alike : (lines : List (List ℕ)) (m m' : List ℕ) → length m ≡ length m' → (run (fresh m) lines).bytes ≡ (run (fresh m') lines).bytes
unfolding run
run-alike [] m m' e = refl
run-alike (l ∷ lines) m m' e = line-alike lines m m' e (run-alike lines m m' e) (line_of l)

pub output-alike : (input m m' : List ℕ) → length m ≡ length m' → (output_of input m).bytes ≡ (output_of input m').bytes
unfolding output_of
output-alike input m m' e = by_bool (ltb 65536 (length input)) (λ l. rw l) (λ s. rw s (run-alike (lines_of input) m m' e))
