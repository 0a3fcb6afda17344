-- What one line of a sheet prints, and what the table in use and the medium are after it.
use Rattle.std.specs.Prelude.{Option, None, Some}
use Rattle.parsing.specs.declared.Line.{Line}
use Rattle.parsing.specs.declared.Line.TheVariants as line
use Rattle.printing.specs.Print.{question}
use Rattle.sheet_start.specs.SheetStart.{Sheet, Done, start_run}
use Rattle.sheet_call.specs.SheetCall.{call_run}

-- a start, a call, or a line that can't be read
unfoldable pub line_run : Sheet → Option Line → Done
line_run s (Some (line.Start capacity)) = start_run s capacity
line_run s (Some (line.Call call)) = call_run s s.table (Some call)
line_run s None = record { bytes = question; sheet = s }
