-- `picks::Weights::limits` meets its contract. The invariant: the servers passed have their limits, by the sum so far.
use Rattle.std.proofs.Common.{refl, arith, rules, length-set}
use Rattle.lists.specs.Below.{total}
use Rattle.lists.proofs.Below.{total-more}
use Rattle.picks.proofs.Limiting.{limits-more}
use Rattle.picks.proofs.Weights.limits.Goals as goal

pub loop-k-init : goal.loop-k-init
unfolding total
loop-k-init c = record { long = search rules; sum = refl; small = omega arith; limits = λ k a x h. absurd (omega arith) }

pub loop-k-preserved : goal.loop-k-preserved
loop-k-preserved c = record {
  long = simp length-set c.loop-k.invariant.long;
  sum = rw total-more (cc);
  small = omega (arith, c.args.self.now.bounded.light c.loop-k.k (search rules));
  limits = limits-more c.args.self.now.all.now c.loop-k.limits c.loop-k.k c.loop-k.sum c.unwrap_or.result c.limit-limit.result (search rules) c.loop-k.invariant.limits c.loop-k.invariant.sum c.limit-limit.ensures c.unwrap_or.ensures;
}
