-- `batch_scan::Sought::touches` meets its contract: whether the slot of one of the entries of a block is set.
use Rattle.std.proofs.Common.{◌+◌, ◌*◌, ◌∙◌, refl, arith, rules}
use borrow.Author.Tests.{tests}
use Rattle.std.proofs.lemmas.Iterator.{YieldsList-from_range}
use Rattle.std.proofs.lemmas.Iterator.Search.{any_from_yields_List}
use Rattle.lists.specs.Below.{nth}
use Rattle.medium.specs.Entry.{entry_words}
use Rattle.batch_scan.specs.Scan.{tested_entries, is_set}
use Rattle.batch_scan.proofs.Passing.{some-numbers}
use Rattle.batch_scan.proofs.Sought.touches.Goals as goal

pub returns : goal.returns
unfolding is_set
returns c =
    let a = c.args in
    any_from_yields_List (λ j. is_set a.self.now.filter.now (nth a.medium.now (a.at + entry_words * j))) _ _ c.any.result c.any.ensures.ran (YieldsList-from_range 0 tested_entries tested_entries refl (omega arith)) (λ x b q k. search (rules, tests))
    ∙ some-numbers _ tested_entries
