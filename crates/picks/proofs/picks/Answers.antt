-- `picks::picks` meets its contract: the ids that there is room for have the write servers that they have among all.
use Rattle.std.proofs.Common.{◌∙◌, arith}
use Rattle.picks.proofs.Picking.{served_by, first-stored}
use Rattle.picks.proofs.picks.Goals as goal

pub returns-then-n-ge-MANY-clause-servers : goal.returns-then-n-ge-MANY-clause-servers
returns-then-n-ge-MANY-clause-servers c = c.pick_many.ensures ∙ first-stored (served_by c.args.weights.now c.args.salt) _ _ _ (omega arith)

pub returns-else-weights-ge-BLOCK-clause-servers : goal.returns-else-weights-ge-BLOCK-clause-servers
returns-else-weights-ge-BLOCK-clause-servers c = c.pick_few.ensures ∙ first-stored (served_by c.args.weights.now c.args.salt) _ _ _ (omega arith)
