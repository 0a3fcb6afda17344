-- `picks::store_each` meets its contract. The invariant: by any rule that the function follows, the numbers of the ids passed are stored.
use Rattle.std.proofs.Common.{◌≡◌, refl, length, arith}
use Rattle.lists.specs.Below.{set_below}
use Rattle.lists.proofs.Below.{set_below-more}
use Rattle.picks.proofs.store_each.Goals as goal

pub loop-i-init : goal.loop-i-init
unfolding set_below
loop-i-init g c = λ rule h. refl

pub loop-i-preserved : goal.loop-i-preserved
loop-i-preserved g c = λ rule h. set_below-more _ c.loop-i.i _ _ _ (c.loop-i.invariant rule h) (h _ _ c.pick.ensures)

pub returns : goal.returns
returns g c = λ rule h. let all : c.loop-i.i ≡ length c.args.ids.now = omega arith in rw all at (c.loop-i.invariant rule h)
