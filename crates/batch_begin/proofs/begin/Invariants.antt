-- `batch_begin::begin` meets its contract. The invariant: the refusals of the ids passed are stored, and nothing else.
use Rattle.std.proofs.Common.{◌≡◌}
use Rattle.replies.specs.Reply.{check_number}
use Rattle.batch_begin.specs.Begin.{columns_of, first_parts}
use Rattle.batch_begin.proofs.begin.Given as goal

abbrev pub invariant-loop-i : goal.invariant-loop-i
invariant-loop-i l = columns_of l.parts ≡ first_parts (check_number l.ready) l.tenant l.ids.all.now l.i
