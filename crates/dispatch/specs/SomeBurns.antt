-- A write or a delete with a number of burns: its reply, and the state after it. Any other call is no call here.
use Rattle.std.specs.Prelude.{ℕ, Option, None, Some}
use Rattle.calls.specs.declared.Call.{Call}
use Rattle.calls.specs.declared.Call.TheVariants.{AddServer, Reweight, Write, Delete, Lookup}
use Rattle.replies.specs.declared.Reply.{Reply}
use Rattle.replies.specs.Reply.{refused}
use Rattle.deletion.specs.Deletion.{delete_reply, delete_some_medium}
use Rattle.writing.specs.Writing.{write_reply, write_some_table, write_some_medium}
use Rattle.history.specs.Machine.{State}
use Rattle.dispatch.specs.OneCall.{no_call_number}

-- the plain call's reply, whatever the burns are
unfoldable pub some_reply : State → Option Call → Reply
some_reply S None = refused no_call_number 0
some_reply S (Some (AddServer _)) = refused no_call_number 0
some_reply S (Some (Reweight _ _)) = refused no_call_number 0
some_reply S (Some (Write tenant id value)) = write_reply S.table S.medium tenant id value
some_reply S (Some (Delete tenant id)) = delete_reply S.table S.medium tenant id
some_reply S (Some (Lookup _ _)) = refused no_call_number 0

-- and the state by the burns
unfoldable pub some_next : State → Option Call → ℕ → State
some_next S None n = S
some_next S (Some (AddServer _)) n = S
some_next S (Some (Reweight _ _)) n = S
some_next S (Some (Write tenant id value)) n = record {
  table = write_some_table S.table S.medium tenant id value n;
  medium = write_some_medium S.table S.medium tenant id value n;
}
some_next S (Some (Delete tenant id)) n = record { table = S.table; medium = delete_some_medium S.table S.medium tenant id n }
some_next S (Some (Lookup _ _)) n = S
