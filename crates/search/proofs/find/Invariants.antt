-- `search::find` meets its contract. The invariant: the answer is that of the servers that are left.
use Prim.Native.Nat.{◌+◌, ◌≤◌}
use mathlib.Core.Path.{◌≡◌}
use Rattle.table.specs.Parts.{table_of}
use Rattle.search.specs.Search.{search_for, answer_of}
use Rattle.search.proofs.Finding.{servers_left}
use Rattle.search.proofs.find.Given as goal

abbrev pub invariant-loop-server : goal.invariant-loop-server
invariant-loop-server l = record {
  few : l.opened + l.server ≤ l.table.shape.count;
  left : answer_of (search_for (table_of l.table) l.medium l.id) ≡ servers_left (table_of l.table) l.medium l.id l.opened l.server;
}
