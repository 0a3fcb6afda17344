-- `writing::write_some` meets its contract: what the write on the lent table answers, and the table by that answer.
use mathlib.Core.Path.{◌∙◌}
use mathlib.Core.Bool.{true, false}
use Rattle.writing.proofs.Done.{answered-written, answered-some, answered-refused}
use Rattle.writing.proofs.write_some.Goals as goal

pub returns-in_err-written-clause-table : goal.returns-in_err-written-clause-table
returns-in_err-written-clause-table c = answered-refused c.args.table.now _ _ _ _ (rw c.view.ensures at c.write_in.ensures.reply) c.in_err-written.was c.args.burns

pub add_entry-requires-clause-table_value : goal.add_entry-requires-clause-table_value
add_entry-requires-clause-table_value c = (answered-written c.args.table.now _ _ _ _ (rw c.view.ensures at c.write_in.ensures.reply) c.in_ok-written.was).is_sound

pub add_entry-requires-clause-server_lt_count : goal.add_entry-requires-clause-server_lt_count
add_entry-requires-clause-server_lt_count c = (answered-written c.args.table.now _ _ _ _ (rw c.view.ensures at c.write_in.ensures.reply) c.in_ok-written.was).there

pub returns-then-is_whole-clause-table : goal.returns-then-is_whole-clause-table
returns-then-is_whole-clause-table c =
    c.add_entry.ensures ∙ answered-some c.args.table.now _ _ _ _ (rw c.view.ensures at c.write_in.ensures.reply) c.in_ok-written.was c.args.burns true (rw c.if-is_whole.true at c.is_whole.ensures)

pub returns-else-is_whole-clause-table : goal.returns-else-is_whole-clause-table
returns-else-is_whole-clause-table c =
    answered-some c.args.table.now _ _ _ _ (rw c.view.ensures at c.write_in.ensures.reply) c.in_ok-written.was c.args.burns false (rw c.if-is_whole.false at c.is_whole.ensures)
