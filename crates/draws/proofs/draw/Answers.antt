-- `draws::draw` meets its contract: three rounds over the seed.
use Rattle.draws.specs.Draw.{draw_of}
use Rattle.draws.proofs.draw.Goals as goal

pub returns : goal.returns
unfolding draw_of
returns c = cc
