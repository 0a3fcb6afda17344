-- One call: its reply, and the state after it. What is no call has both too.
use Rattle.std.specs.Prelude.{ℕ, cond, List, eqb, Option, None, Some}
use Rattle.counters.specs.Counter.{counted}
use Rattle.table.specs.declared.Table.{Table}
use Rattle.table.specs.Parts.{shape_of, table_by}
use Rattle.upkeep.specs.Upkeep.{one_more}
use Rattle.calls.specs.declared.Call.{Call}
use Rattle.calls.specs.declared.Call.TheVariants.{AddServer, Reweight, Write, Delete, Lookup}
use Rattle.replies.specs.declared.Reply.{Reply}
use Rattle.replies.specs.Reply.{refused}
use Rattle.history.specs.Call.{add_server, reweight, write, delete, lookup}
use Rattle.history.specs.Call as list
use Rattle.history.specs.Machine.{State, reply, next}

-- the call as it stands in a list of calls
unfoldable pub in_list : Call → list.Call
in_list (AddServer weight) = add_server weight
in_list (Reweight server weight) = reweight server weight
in_list (Write tenant id value) = write tenant id value
in_list (Delete tenant id) = delete tenant id
in_list (Lookup tenant id) = lookup tenant id

-- what is no call gets a number that no call gives, and changes nothing
abbrev pub no_call_number : ℕ
no_call_number = 4294967295

unfoldable pub reply_to : State → Option Call → Reply
reply_to S None = refused no_call_number 0
reply_to S (Some c) = reply S (in_list c)

unfoldable pub next_by : State → Option Call → State
next_by S None = S
next_by S (Some c) = next S (in_list c)

-- the used entries after a call by its reply: a write that is accepted has one more on its server
unfoldable pub used_after : List ℕ → Option Call → Reply → List ℕ
used_after used None r = used
used_after used (Some (AddServer _)) r = used
used_after used (Some (Reweight _ _)) r = used
used_after used (Some (Write _ _ _)) r = cond (eqb r.refusal 0) (one_more used r.server) used
used_after used (Some (Delete _ _)) r = used
used_after used (Some (Lookup _ _)) r = used

-- the counters after a call by its reply: a lookup counts the servers that it opened for its tenant
unfoldable pub counters_after : List ℕ → Option Call → Reply → List ℕ
counters_after counters None r = counters
counters_after counters (Some (AddServer _)) r = counters
counters_after counters (Some (Reweight _ _)) r = counters
counters_after counters (Some (Write _ _ _)) r = counters
counters_after counters (Some (Delete _ _)) r = counters
counters_after counters (Some (Lookup tenant _)) r = counted counters tenant r.opened

-- a table with other used entries and counters, and the table with what a call counts
abbrev pub with_counts : Table → List ℕ → List ℕ → Table
with_counts t used counters = table_by (shape_of t) t.weights used t.numerators t.denominators counters

abbrev pub counted_table : Table → Option Call → Reply → Table
counted_table t o r = with_counts t (used_after t.used o r) (counters_after t.counters o r)
