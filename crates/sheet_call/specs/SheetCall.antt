-- What a call on a sheet prints, and what the table in use and the medium are after it.
use Rattle.std.specs.Prelude.{Option, None, Some}
use Rattle.table.specs.declared.Table.{Table}
use Rattle.calls.specs.declared.Call.{Call}
use Rattle.history.specs.Machine.{State}
use Rattle.dispatch.specs.OneCall.{reply_to, next_by}
use Rattle.printing.specs.Print.{question, answered}
use Rattle.sheet_start.specs.SheetStart.{Sheet, Done}

-- before the first accepted S a call prints a question mark; what is no call prints one too
unfoldable pub call_run : Sheet → Option Table → Option Call → Done
call_run s None call = record { bytes = question; sheet = s }
call_run s (Some t) call =
    let S : State = record { table = t; medium = s.medium } in
    record {
      bytes = answered call (reply_to S call);
      sheet = record { table = Some (next_by S call).table; medium = (next_by S call).medium };
    }
