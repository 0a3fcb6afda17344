-- `placement::sum_weights` meets its contract: the sum of at most 256 weights, each of at most 65,536, fits.
use Rattle.std.proofs.Common.{◌≡◌, ◌<◌, length, sum, ap, sym, ◌∙◌, arith, rules}
use Rattle.std.proofs.lemmas.List.{take_all}
use Rattle.lists.proofs.Below.{total-le}
use Rattle.lists.proofs.Listed.{total-sum}
use Rattle.lists.specs.Below.{nth, total}
use Rattle.placement.proofs.sum_weights.Goals as goal

pub sum-requires-clause-fits : goal.sum-requires-clause-fits
sum-requires-clause-fits c =
    let ws = c.args.weights.now in
    let all : total (nth ws) (length ws) ≡ sum ws = total-sum ws (length ws) (omega arith) ∙ ap sum (take_all _ ws (omega arith)) in
    let few : sum ws < 4294967296 = omega (arith, all, total-le (nth ws) 65536 (length ws) c.requires.light, c.requires.few) in
    search rules

pub returns : goal.returns
returns c =
    let ws = c.args.weights.now in
    let all : c.sum.result ≡ sum ws = search rules in
    all ∙ sym (total-sum ws (length ws) (omega arith) ∙ ap sum (take_all _ ws (omega arith)))
