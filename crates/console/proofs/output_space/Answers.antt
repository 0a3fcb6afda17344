-- `console::output_space` meets its contract; the array is too long to be computed.
use Rattle.std.proofs.Common.{ℕ, sym}
use lib.ListN.{length-replicate}
use Rattle.console.proofs.output_space.Goals as goal

pub returns : goal.returns
returns c = sym (length-replicate {A = ℕ} 2293760 0)
