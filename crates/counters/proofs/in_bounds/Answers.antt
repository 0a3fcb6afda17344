-- `counters::in_bounds` meets its contract. The invariant: whether no counter passed is above its bound.
use Rattle.std.proofs.Common.{◌≡◌, refl, ◌∙◌, arith}
use mathlib.Core.Bool.{and_comm}
use Rattle.limits.specs.Limits.{tenants}
use Rattle.lists.specs.Below.{all_below}
use Rattle.lists.proofs.Below.{all_below-next}
use Rattle.counters.specs.Counter.{in_bounds}
use Rattle.counters.proofs.in_bounds.Goals as goal

pub returns : goal.returns
unfolding in_bounds
returns c =
    let all : c.loop-counter.counter-index ≡ tenants = omega arith in
    rw all at c.loop-counter.invariant

pub loop-counter-init : goal.loop-counter-init
unfolding all_below
loop-counter-init c = refl

pub loop-counter-preserved : goal.loop-counter-preserved
loop-counter-preserved c = and_comm c.loop-counter.within _ ∙ all_below-next _ c.loop-counter.counter-index _ _ refl c.loop-counter.invariant
