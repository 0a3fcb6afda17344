-- `image_reader::read_counters` meets its contract.
use Prim.Native.Nat.{◌+◌}
use mathlib.Core.Path.{refl}
use Rattle.limits.specs.Limits.{tenants}
use Rattle.lists.specs.Below.{all_below, set_below}
use Rattle.lists.proofs.Tests.{true-not-false}
use Rattle.lists.proofs.Below.{all_below-more, set_below-more}
use Rattle.image.specs.Decoding.{content_at, counter_tagged}
use Rattle.image_reader.proofs.Tagged.{some_if, none_if, fails_below}
use Rattle.image_reader.proofs.read_counters.Goals as goal

pub loop-i-init : goal.loop-i-init
unfolding all_below set_below
loop-i-init c = record { tagged = refl; read = refl }

pub returns-in_err-counter : goal.returns-in_err-counter
unfolding counter_tagged
returns-in_err-counter c =
    let e = fails_below (counter_tagged c.args.image.now c.args.from) tenants c.loop-i.i c.loop-i-test.true (none_if _ _ c.in_err-counter.ensures) in
    record { tagged = rw (c.from_residual.ensures, e); counters = λ t. absurd (true-not-false t e) }

pub loop-i-preserved : goal.loop-i-preserved
unfolding counter_tagged
loop-i-preserved c =
    let e = some_if _ _ _ c.in_ok-counter.ensures in
    record {
      tagged = all_below-more (counter_tagged c.args.image.now c.args.from) c.loop-i.i c.loop-i.invariant.tagged e.0;
      read = set_below-more (λ i. content_at c.args.image.now (c.args.from + i)) c.loop-i.i c.args.counters.now c.loop-i.counters _ c.loop-i.invariant.read e.1;
    }
