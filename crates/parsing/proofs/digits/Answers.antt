-- `parsing::digits` meets its contract: the chain takes the digits at the front and counts them.
use Rattle.std.proofs.Common.{◌∙◌, rules, tests}
use Rattle.std.proofs.lemmas.Iterator.{YieldsList-from_slice}
use Rattle.std.proofs.lemmas.Iterator.Consumers.{count_from_yields_List}
use Rattle.std.proofs.lemmas.Iterator.Search.{YieldsList-from_take_while}
use Rattle.std.proofs.lemmas.List.Folds.{length-prefix_len}
use Rattle.parsing.specs.Line.{is_digit}
use Rattle.parsing.proofs.digits.Goals as goal

pub returns : goal.returns
unfolding is_digit
returns c =
    count_from_yields_List _ _ c.count.ensures.ran
    (YieldsList-from_take_while _ is_digit (YieldsList-from_slice c.args.bytes.now cc) c.take_while.ensures.closure c.take_while.ensures.done (λ x b q k. search (rules, tests)))
    ∙ length-prefix_len is_digit c.args.bytes.now
