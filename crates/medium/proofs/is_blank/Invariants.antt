-- `medium::is_blank` meets its contract. The invariant: the words passed are blank.
use mathlib.Core.Path.{◌≡◌}
use mathlib.Core.Bool.{true}
use Rattle.medium.specs.Entry.{blank_run}
use Rattle.medium.proofs.is_blank.Given as goal

abbrev pub invariant-loop-word : goal.invariant-loop-word
invariant-loop-word l = blank_run l.medium l.from l.word-index ≡ true
