-- What a function shows of a line that gets a question mark, as a call before the first accepted S does.
-- Assumes nothing.
use Prim.Native.Nat.{ℕ, ◌+◌}
use mathlib.Core.Path.{◌≡◌, refl, ap}
use mathlib.Core.List.{List}
use Rattle.std.specs.Prelude.{Option, None}
use lib.ListN.{length}
use lib.Seq.{sets}
use Rattle.table.specs.declared.Table.{Table}
use Rattle.calls.specs.declared.Call.{Call}
use Rattle.printing.specs.Print.{question}
use Rattle.sheet_start.specs.SheetStart.{Done, sheet_of}
use Rattle.sheet_start.proofs.Shown.{shown}
use Rattle.sheet_call.specs.SheetCall.{call_run}

pub asked : (d : Done) (u u' : Option Table) (m out out' : List ℕ) (at next : ℕ) → d ≡ record { bytes = question; sheet = sheet_of u m }
    → (next ≡ at + length question) × ((out' ≡ sets out at question) × (u' ≡ u))
    → (next ≡ at + length d.bytes) × ((out' ≡ sets out at d.bytes) × (sheet_of u' m ≡ d.sheet))
asked d u u' m out out' at next e a = shown d e out out' at next (sheet_of u' m) a.0 a.1.0 (ap (λ (v : Option Table). sheet_of v m) a.1.1)

pub too-early : (m : List ℕ) (o : Option Call) → call_run (sheet_of None m) None o ≡ record { bytes = question; sheet = sheet_of None m }
unfolding call_run
too-early m o = refl
