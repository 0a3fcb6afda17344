-- `batch::lookup_batch_in` meets its contract. The invariant: how far the batch is, as `BatchFrom` says.
use Rattle.table.specs.Parts.{table_of}
use Rattle.batch_begin.specs.Begin.{columns_of}
use Rattle.batch.proofs.BatchParts.{BatchFrom}
use Rattle.batch.proofs.lookup_batch_in.Given as goal

abbrev pub invariant-loop-k : goal.invariant-loop-k
invariant-loop-k l = BatchFrom (table_of l.table) l.medium l.tenant l.ids l.k (columns_of l.parts) l.mounts
