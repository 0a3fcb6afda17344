-- A call on a sheet whose table is in use: what it prints, and the sheet after it.
-- Assumes nothing.
use Prim.Native.Nat.{ℕ}
use mathlib.Core.Path.{◌≡◌}
use mathlib.Core.List.{List}
use Rattle.std.specs.Prelude.{Option, Some}
use Rattle.table.specs.declared.Table.{Table}
use Rattle.calls.specs.declared.Call.{Call}
use Rattle.replies.specs.declared.Reply.{Reply}
use Rattle.history.specs.Machine.{State}
use Rattle.dispatch.specs.OneCall.{reply_to, next_by}
use Rattle.printing.specs.Print.{answered}
use Rattle.sheet_start.specs.SheetStart.{sheet_of}
use Rattle.sheet_call.specs.SheetCall.{call_run}

pub call-run : (t : Table) (m : List ℕ) (o : Option Call) (r : Reply) (t' : Table) (m' : List ℕ)
    → (let S : State = record { table = t; medium = m } in r ≡ reply_to S o)
    → (let S : State = record { table = t; medium = m } in t' ≡ (next_by S o).table)
    → (let S : State = record { table = t; medium = m } in m' ≡ (next_by S o).medium)
    → call_run (sheet_of (Some t) m) (Some t) o ≡ record { bytes = answered o r; sheet = sheet_of (Some t') m' }
unfolding call_run
call-run t m o r t' m' er et em = rw (er, et, em)
