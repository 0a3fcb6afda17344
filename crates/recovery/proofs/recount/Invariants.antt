-- `recovery::recount` meets its contract. The invariant: the servers passed have their used by the words.
use mathlib.Core.Path.{◌≡◌}
use Rattle.lists.specs.Below.{set_below}
use Rattle.recovery.specs.Recovery.{used_on}
use Rattle.recovery.proofs.recount.Given as goal

abbrev pub invariant-loop-k : goal.invariant-loop-k
invariant-loop-k l = l.used-items ≡ set_below (used_on l.capacity l.medium) l.k l.initial.used-items
