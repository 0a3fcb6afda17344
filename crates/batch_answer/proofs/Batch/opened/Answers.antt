-- `batch_answer::Batch::opened` meets its contract: the sum of 256 numbers of at most 256 fits.
use Rattle.std.proofs.Common.{◌≡◌, ◌∙◌, sum, map, rules, arith}
use Rattle.std.proofs.lemmas.Iterator.{YieldsList-from_slice, YieldsList-from_map}
use Rattle.std.proofs.lemmas.Iterator.Consumers.{fits_from_yields_list}
use Rattle.std.proofs.lemmas.List.Sums.{sum-map}
use Rattle.replies.specs.declared.LookupAnswer.{LookupAnswer}
use Rattle.batch_answer.proofs.Columns.{opened_sum, sum_fits}
use Rattle.batch_answer.proofs.Batch.opened.Goals as goal

pub returns : goal.returns
returns c =
    let ns = c.args.self.now.answers in
    let all : c.sum.result ≡ sum (map (λ (a : LookupAnswer). a.opened) ns) = search (rules, sum-map) in
    all ∙ opened_sum ns (omega arith)

pub sum-requires-clause-fits : goal.sum-requires-clause-fits
sum-requires-clause-fits c = fits_from_yields_list _ _
    (YieldsList-from_map _ (λ (a : LookupAnswer). a.opened) (YieldsList-from_slice c.args.self.now.answers cc) c.map.ensures.closure (λ x r q k. search rules))
    (sum_fits c.args.self.now.answers (omega arith) c.args.self.now.few)
