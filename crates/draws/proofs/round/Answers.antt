-- `draws::round` meets its contract: the definition read word for word.
use Rattle.std.proofs.Common.{refl}
use Rattle.draws.specs.Draw.{xor_left, xor_right, round_of}
use Rattle.draws.proofs.round.Goals as goal

pub returns : goal.returns
unfolding round_of xor_left xor_right
returns c = refl
