-- `printing::put_question` meets its contract: two bytes.
use mathlib.Core.Path.{refl}
use Rattle.printing.specs.Print.{question}
use Rattle.printing.proofs.Printing.{put_two}
use Rattle.printing.proofs.put_question.Goals as goal

pub returns-clause-next : goal.returns-clause-next
unfolding question
returns-clause-next c = refl

pub returns-clause-bytes : goal.returns-clause-bytes
unfolding question
returns-clause-bytes c = put_two c.args.out.now c.args.at 63 10
