-- `batch::lookup_batch` meets its contract: what `lookup_batch_in` answers, and what the counter takes.
use Rattle.std.proofs.Common.{◌∙◌}
use Rattle.batch.proofs.Counting.{left-as-lent, counted-whole}
use Rattle.batch.proofs.lookup_batch.Goals as goal

pub returns-in_err-batch-clause-table : goal.returns-in_err-batch-clause-table
returns-in_err-batch-clause-table c = left-as-lent _ _ _ _ (rw c.view.ensures at c.lookup_batch_in.ensures) c.in_err-batch.was

pub returns-clause-table : goal.returns-clause-table
returns-clause-table c = c.add_opened.ensures ∙ counted-whole _ _ _ _ (rw c.view.ensures at c.lookup_batch_in.ensures) c.in_ok-batch.was c.opened.ensures
