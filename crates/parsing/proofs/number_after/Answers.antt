-- `parsing::number_after` meets its contract: past the line's end, at a byte that is no space, and after a space.
use Rattle.std.proofs.Common.{◌≡◌, sym, ◌∙◌, rules}
use Rattle.std.proofs.lemmas.Option.{gets}
use borrow.Author.Tests.{ltb-false}
use Rattle.lists.specs.Below.{nth}
use Rattle.parsing.proofs.Reading.{past_end, no-space, after-space}
use Rattle.parsing.proofs.number_after.Goals as goal

pub returns-in_err-before : goal.returns-in_err-before
returns-in_err-before c = c.from_residual.ensures ∙ past_end c.args.line.now c.args.at (ltb-false _ _ (sym c.in_err-before.ensures.lookup.0))

pub returns-then-before-ne32 : goal.returns-then-before-ne32
returns-then-before-ne32 c =
    let read : c.in_ok-before.before.now ≡ nth c.args.line.now c.args.at = search (rules, gets) in
    no-space c.args.line.now c.args.at (λ e. c.if-before-ne32.true (read ∙ e))

pub returns : goal.returns
returns c =
    let read : c.in_ok-before.before.now ≡ nth c.args.line.now c.args.at = search (rules, gets) in
    after-space c.args.line.now c.args.at _ (sym read ∙ c.if-before-ne32.false) c.number_at.ensures
