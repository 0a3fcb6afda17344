-- `placement::write_server` meets its contract. The invariant: the write server is the highest of those left that take.
use Rattle.std.proofs.Common.{refl, sym, ◌∙◌, arith, rules}
use Rattle.lists.specs.Below.{nth}
use Rattle.lists.proofs.Below.{total-last, highest-end}
use Rattle.placement.specs.Rule.{pick, write_server}
use Rattle.placement.proofs.Rules.{last_takes, last_passed}
use Rattle.placement.proofs.write_server.Goals as goal

pub loop-k-init : goal.loop-k-init
unfolding write_server pick
loop-k-init c = record { within = search rules; sum = c.sum_weights-sum.ensures; left = refl }

pub returns-then-takes : goal.returns-then-takes
returns-then-takes c = last_takes _ _ _ _ c.loop-k.k _ _ (omega arith) c.loop-k.invariant.left c.loop-k.invariant.sum c.takes.ensures c.if-takes.true

pub overflow_sub-sum : goal.overflow_sub-sum
overflow_sub-sum c = omega (arith, total-last (nth c.args.weights.now) c.loop-k.k (omega arith))

pub loop-k-preserved : goal.loop-k-preserved
loop-k-preserved c = record {
  within = omega arith;
  sum = omega (arith, total-last (nth c.args.weights.now) c.loop-k.k (omega arith));
  left = last_passed _ _ _ _ c.loop-k.k _ _ (omega arith) c.loop-k.invariant.left c.loop-k.invariant.sum c.takes.ensures c.if-takes.false;
}

pub returns : goal.returns
returns c = sym (c.loop-k.invariant.left ∙ highest-end _ c.loop-k.k (omega arith))
