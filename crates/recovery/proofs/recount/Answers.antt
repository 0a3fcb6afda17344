-- `recovery::recount` meets its contract.
use Prim.Native.Nat.{suc, ◌≤◌}
use mathlib.Core.Path.{◌≡◌, refl}
use native.Mathlib.Omega.{arith}
use Rattle.std.proofs.lemmas.List.{length-take-le}
use Rattle.lists.specs.Below.{set_below}
use Rattle.lists.proofs.Below.{set_below-more}
use Rattle.medium.proofs.Places.{server-le}
use Rattle.recovery.specs.Recovery.{used_on}
use Rattle.recovery.proofs.Recovering.{used_on-le, put_back}
use Rattle.recovery.proofs.recount.Goals as goal

pub loop-k-init : goal.loop-k-init
unfolding set_below
loop-k-init c = refl

pub used_on-requires : goal.used_on-requires
used_on-requires c =
    let next : suc c.loop-k.k ≤ c.args.count = omega (arith, length-take-le c.args.count c.args.used.now c.requires.count_in_bounds) in
    record {
      small = c.requires.capacity_le_max_capacity.0;
      few = omega arith;
      long = omega (arith, server-le c.args.capacity (suc c.loop-k.k) c.args.count next);
    }

pub overflow_cast-used : goal.overflow_cast-used
overflow_cast-used c = omega (arith, used_on-le c.args.capacity c.args.medium.now c.loop-k.k)

pub loop-k-preserved : goal.loop-k-preserved
loop-k-preserved c =
    set_below-more (used_on c.args.capacity c.args.medium.now) c.loop-k.k _ _ _ c.loop-k.invariant c.used_on.ensures

pub returns : goal.returns
returns c =
    let few = c.requires.count_in_bounds in
    let whole : c.loop-k.k ≡ c.args.count = omega (arith, length-take-le c.args.count c.args.used.now few) in
    put_back _ c.args.count c.args.used.now c.loop-k.used-items few (rw whole at c.loop-k.invariant)
