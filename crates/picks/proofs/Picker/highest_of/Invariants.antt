-- `picks::Picker::highest_of` meets its contract. The invariant: the highest of the servers looked at that takes the id.
use Rattle.std.proofs.Common.{◌≡◌, ◌+◌}
use Rattle.lists.specs.Below.{highest}
use Rattle.picks.specs.Limited.{passes}
use Rattle.picks.proofs.Picker.highest_of.Given as goal

abbrev pub invariant-loop-j : goal.invariant-loop-j
invariant-loop-j l = l.best ≡ highest (λ k. passes l.self.weights.all.now l.self.salt l.id (l.from + k)) l.j
