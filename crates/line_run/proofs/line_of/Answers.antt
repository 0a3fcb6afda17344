-- `line_run::line_of` meets its contract: the numbers are read, one or two, with nothing after the last.
use Rattle.std.proofs.Common.{◌≡◌, ◌∙◌, rules}
use Rattle.parsing.specs.Line.{line_of}
use Rattle.parsing.proofs.Reading.{inside-line, no-first, no_second, whole_of, with_second, without-second, more-after, none_after}
use Rattle.line_run.proofs.line_of.Goals as goal
use Rattle.line_run.proofs.line_of.Goals.{Joined-has_two, then-has_two+in_ok-number_after, else-has_two}

pub returns-in_err-first : goal.returns-in_err-first
returns-in_err-first c = c.from_residual.ensures ∙ no-first c.args.line.now c.in_err-first.ensures

pub bounds-line-0 : goal.bounds-line-0
bounds-line-0 c = let i = inside-line c.args.line.now 1 (c.in_ok-first.first, c.in_ok-first.after_first) c.in_ok-first.ensures in search (rules, i)

pub returns-in_err-number_after : goal.returns-in_err-number_after
returns-in_err-number_after c =
    c.from_residual-in_err-number_after.ensures ∙ no_second c.args.line.now _ _ c.in_ok-first.ensures _ c.has_two.ensures c.if-has_two.true c.in_err-number_after.ensures

-- the last number, and where it ends
whole : (c : Joined-has_two) → line_of c.args.line.now ≡ whole_of c.args.line.now _ _ c.in_ok-first.ensures c.if-has_two.second
whole c = elim c.if-has_two.branch [
  | then-has_two+in_ok-number_after w ↦ rw w.second-is (with_second c.args.line.now _ _ c.in_ok-first.ensures _ c.has_two.ensures w.if-has_two.true _ w.in_ok-number_after.ensures)
  | else-has_two w ↦ rw w.second-is (without-second c.args.line.now _ _ c.in_ok-first.ensures _ c.has_two.ensures w.if-has_two.false)
]

pub returns-then-end-line : goal.returns-then-end-line
returns-then-end-line c =
    more-after c.args.line.now _ _ c.in_ok-first.ensures _ (whole (goal.at.returns-then-end-line c).Joined-has_two) c.if-end-line.true

pub returns : goal.returns
returns c =
    none_after c.args.line.now _ _ c.in_ok-first.ensures _ _ (whole (goal.at.returns c).Joined-has_two) c.if-end-line.false c.line_by.ensures
