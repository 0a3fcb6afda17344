-- `picks::Weights::pick_many` meets its contract: what it stores is by the rule of the write server.
use Rattle.std.proofs.Common.{rules}
use Rattle.picks.proofs.Picking.{served_by}
use Rattle.picks.proofs.Weights.pick_many.Goals as goal

pub returns : goal.returns
returns c = c.store_each.ensures (served_by c.args.self.now.all.now c.args.salt) (λ id r e. search rules)
