-- `image_writer::store_counters` meets its contract.
use borrow.Author.Rules.{rules}
use Rattle.image.proofs.Reading.{counter-small}
use Rattle.image_writer.proofs.store_counters.Goals as goal

pub tagged-requires : goal.tagged-requires
tagged-requires c = (search rules, counter-small c.args.counters.now c.requires.counters_value c.loop-i.i (search rules))
