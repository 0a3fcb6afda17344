-- `image_writer::store_image` meets its contract: two words, the servers and the counters.
use borrow.Author.Rules.{rules}
use Rattle.table.specs.Parts.{table_of}
use Rattle.image.proofs.Writing.{head_small, stored-image}
use Rattle.image_writer.proofs.store_image.Goals as goal

pub tagged-requires : goal.tagged-requires
tagged-requires c = (search rules, (head_small (table_of c.args.sound.now.view.now) c.args.sound.now.tested).0)

pub tagged-requires-2 : goal.tagged-requires-2
tagged-requires-2 c = (search rules, (head_small (table_of c.args.sound.now.view.now) c.args.sound.now.tested).1)

pub store_counters-requires-clause-counters_value : goal.store_counters-requires-clause-counters_value
store_counters-requires-clause-counters_value c = (head_small (table_of c.args.sound.now.view.now) c.args.sound.now.tested).2

pub returns : goal.returns
returns c =
    stored-image (table_of c.args.sound.now.view.now) c.args.destination.now _ _ c.tagged.ensures c.tagged-2.ensures c.store_servers.ensures c.store_counters.ensures
