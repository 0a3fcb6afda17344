-- `scan::has` meets its contract. The invariant: whether a word passed is the id's.
use Rattle.std.proofs.Common.{◌≡◌}
use Rattle.scan.proofs.Passing.{has_word}
use Rattle.scan.proofs.has.Given as goal

abbrev pub invariant-loop-word : goal.invariant-loop-word
invariant-loop-word l = l.found ≡ has_word l.medium l.id l.from l.word-index
