-- `upkeep::add_entry` meets its contract.
use borrow.Author.Rules.{rules}
use Rattle.upkeep.proofs.Upkeep.{used_bounds}
use Rattle.upkeep.proofs.add_entry.Goals as goal

pub count_entry-requires-clause-server_in_bounds : goal.count_entry-requires-clause-server_in_bounds
count_entry-requires-clause-server_in_bounds c = let s = used_bounds _ _ c.requires.table_value c.requires.server_lt_count in search rules
