-- `medium::entry_at` meets its contract: an entry stands 3 words for each one before it above its server's first word.
use native.Mathlib.Omega.{arith}
use borrow.Author.Rules.{rules}
use Rattle.medium.specs.Entry.{entry_at}
use Rattle.medium.proofs.Places.{entry-small}
use Rattle.medium.proofs.entry_at.Goals as goal

pub overflow_add-result : goal.overflow_add-result
unfolding entry_at
overflow_add-result c = omega (arith, entry-small c.args.capacity c.args.server c.args.entry c.requires.0 c.requires.1 c.requires.2)

pub returns : goal.returns
unfolding entry_at
returns c = search rules
