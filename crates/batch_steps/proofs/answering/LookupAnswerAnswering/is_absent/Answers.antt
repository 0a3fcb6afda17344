-- `batch_steps::answering`, the answer to a lookup: its test for `NotFound` is that of its reply's number.
use Rattle.std.proofs.Common.{rules}
use Rattle.batch_steps.proofs.Stepping.{absent_by_value}
use Rattle.batch_steps.proofs.answering.LookupAnswerAnswering.is_absent.Goals as goal

pub returns : goal.returns
returns c = absent_by_value c.args.self.now (λ e. search rules) (λ e d. search rules)
