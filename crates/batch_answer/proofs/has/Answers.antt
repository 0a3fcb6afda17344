-- `batch_answer::has` meets its contract, by the library's word for it.
use Rattle.std.proofs.Common.{◌≡◌, ◌∙◌, take, length, sym, eqb, arith}
use Rattle.std.proofs.lemmas.List.{take_all}
use Rattle.lists.proofs.Listed.{some_below-take}
use Rattle.batch_answer.proofs.has.Goals as goal

pub returns : goal.returns
returns c =
    let xs = c.args.numbers.now in
    let all : take (length xs) xs ≡ xs = take_all (length xs) xs (omega arith) in
    c.contains.ensures.value ∙ sym (rw all at (some_below-take (λ y. eqb y c.args.x) xs (length xs) (omega arith)))
