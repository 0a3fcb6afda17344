-- `batch::searched` meets its contract: a refusal's number is not 0.
use Rattle.std.proofs.Common.{◌≡◌, ◌∙◌, ℕ, cond, eqb, Result, Ok, Err, refl, sym}
use Rattle.std.specs.Prelude.{is_ok}
use borrow.Author.Tests.{ne_eqb}
use Rattle.replies.specs.declared.Refusal.{Refusal}
use Rattle.replies.specs.Reply.{number_of, check_number}
use Rattle.replies.proofs.Answers.{number-not-zero}
use Rattle.batch.proofs.searched.Goals as goal

by_test : {A : Type 0} (a : Result A Refusal) (count : ℕ) → cond (is_ok a) count 0 ≡ cond (eqb (check_number a) 0) count 0
unfolding check_number
by_test (Ok v) count = refl
by_test (Err r) count = rw (ne_eqb (number_of r) 0 (number-not-zero r)) refl

pub returns-then-is_ok : goal.returns-then-is_ok
returns-then-is_ok c = rw (sym c.is_ok.ensures.value ∙ c.if-is_ok.true) at (by_test c.args.ready.now c.args.count)

pub returns-else-is_ok : goal.returns-else-is_ok
returns-else-is_ok c = rw (sym c.is_ok.ensures.value ∙ c.if-is_ok.false) at (by_test c.args.ready.now c.args.count)
