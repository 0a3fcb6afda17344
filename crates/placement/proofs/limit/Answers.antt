-- `placement::limit` meets its contract: a case each for 0, for a fraction above 1 and for any other.
use native.Mathlib.Omega.{arith}
use borrow.Author.Rules.{rules}
use borrow.Author.Tests.{le-leb}
use Rattle.draws.specs.Draw.{modulus}
use Rattle.placement.proofs.Fractions.{zero-exceeds-none, improper-exceeds, proper-exceeds}
use Rattle.placement.proofs.limit.Goals as goal

pub returns-then-num-eq0 : goal.returns-then-num-eq0
returns-then-num-eq0 c = λ x h. rw c.if-num-eq0.true (zero-exceeds-none modulus _ x)

pub returns-then-num-den : goal.returns-then-num-den
returns-then-num-den c = λ x h. rw (improper-exceeds modulus c.args.f x h (search rules), le-leb x 4294967295 (omega arith))

pub returns : goal.returns
returns c = λ x h. rw (c.from.ensures, c.from-2.ensures) (proper-exceeds modulus c.args.f (search rules) (search rules) (search rules) x)
