-- `sheet::run`: what is printed and what the lines that are left print make up the whole.
use Rattle.std.specs.Slice.Iter.{split_inclusive_rest}
use Rattle.sheet.proofs.Sheets.{Left}
use Rattle.sheet.proofs.run.Given as goal

abbrev pub invariant-loop-line : goal.invariant-loop-line
invariant-loop-line l = Left l.input l.initial.medium l.initial.out l.in_use l.medium l.out (split_inclusive_rest l.line-iterator) l.at
