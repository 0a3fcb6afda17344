-- `medium::server_at` meets its contract: the last address is far below 2^64.
use mathlib.Core.Path.{refl}
use Rattle.medium.specs.Entry.{server_at}
use Rattle.medium.proofs.server_at.Goals as goal

pub returns : goal.returns
unfolding server_at
returns c = refl
