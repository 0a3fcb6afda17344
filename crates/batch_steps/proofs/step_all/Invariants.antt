-- `batch_steps::step_all` meets its contract. The invariant: the parts so far are stepped, the rest as they were.
use Rattle.std.proofs.Common.{◌≡◌}
use Rattle.table.specs.Parts.{table_of, read_p}
use Rattle.batch_steps.specs.Steps.{columns_by, with_parts, stepped_at}
use Rattle.batch_steps.proofs.step_all.Given as goal

abbrev pub invariant-loop-i : goal.invariant-loop-i
invariant-loop-i g l = columns_by g.A.Answering.numbers l.parts
    ≡ with_parts (stepped_at (read_p (table_of l.table) l.server.number) l.table.shape l.server.used l.server.medium.now l.ids.all.now l.server.number (columns_by g.A.Answering.numbers l.initial.parts)) l.i (columns_by g.A.Answering.numbers l.initial.parts)
