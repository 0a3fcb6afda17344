-- `draws::step` meets its contract: the rule is computed over all entries of the table of constants, and is read at the server's entry.
use Rattle.std.proofs.Common.{refl}
use Rattle.lists.specs.Below.{all_below}
use Rattle.draws.specs.Draw.{step_of, are_steps}
use Rattle.draws.specs.declared.constants.TheConstants.{STEPS}
use Rattle.draws.proofs.Tabled.{steps-at}
use Rattle.draws.proofs.step.Goals as goal

pub returns : goal.returns
unfolding are_steps all_below step_of
returns c = record { rule = refl; step = steps-at STEPS refl c.args.server c.requires }
