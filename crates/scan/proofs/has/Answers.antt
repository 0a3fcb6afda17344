-- `scan::has` meets its contract. The invariant: whether a word passed is the id's.
use Rattle.std.proofs.Common.{◌+◌, ◌-◌, refl, arith}
use Rattle.lists.specs.Below.{some_below}
use Rattle.scan.proofs.Passing.{has-next}
use Rattle.scan.proofs.has.Goals as goal

pub loop-word-init : goal.loop-word-init
unfolding some_below
loop-word-init c = refl

pub loop-word-preserved : goal.loop-word-preserved
loop-word-preserved c =
    let a = c.args in
    has-next a.medium.now a.id a.from (a.from + a.n - a.from) c.loop-word.word-index (omega arith) c.loop-word.invariant
