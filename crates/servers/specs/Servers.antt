-- Start, add_server and reweight (document 01, "The calls", and document 02, item 4): for each its reply, and the table that it
-- leaves. t is the table and m the medium as lent.
use Rattle.std.specs.Prelude.{ℕ, List}
use Rattle.table.specs.declared.Table.{Table}
use Rattle.table.specs.Parts.{empty}
use Rattle.upkeep.specs.Upkeep.{with_server, with_weight}
use Rattle.replies.specs.Refusal.{settle}
use Rattle.replies.specs.declared.Reply.{Reply}
use Rattle.replies.specs.Reply.{accepted, on_server, reply_by}
use Rattle.server_rows.specs.ServerRows.{start_rows, add_server_rows, reweight_rows}

-- start: a capacity and a salt

unfoldable pub start_reply : ℕ → ℕ → Reply
start_reply capacity salt = reply_by (start_rows capacity salt) accepted

-- a refused start gives a table of all zeros
unfoldable pub start_table : ℕ → ℕ → Table
start_table capacity salt = settle (start_rows capacity salt) (empty capacity salt) (empty 0 0)

-- add_server, the paper's fit: the medium is only read

unfoldable pub add_server_reply : Table → List ℕ → ℕ → Reply
add_server_reply t m weight = reply_by (add_server_rows t m weight) (on_server t.count 0)

unfoldable pub add_server_table : Table → List ℕ → ℕ → Table
add_server_table t m weight = settle (add_server_rows t m weight) (with_server t weight) t

-- reweight, the paper's weigh: it has no medium

unfoldable pub reweight_reply : Table → ℕ → ℕ → Reply
reweight_reply t server weight = reply_by (reweight_rows t server weight) (on_server server 0)

unfoldable pub reweight_table : Table → ℕ → ℕ → Table
reweight_table t server weight = settle (reweight_rows t server weight) (with_weight t server weight) t
