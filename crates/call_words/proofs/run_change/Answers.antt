-- `call_words::run_change` meets its contract: a call leaves a count below 2^32.
use Rattle.call_words.proofs.Calling.{count_fits}
use Rattle.call_words.proofs.run_change.Goals as goal

pub store_table-requires : goal.store_table-requires
store_table-requires c = count_fits _ _ _ c.run_change-reply.ensures.table (rw c.to_table-changed.ensures c.view_of.ensures.count)
