-- `batch_steps::step` meets its contract: a law on plain values for each of its ends.
use mathlib.Core.Path.{sym, ◌∙◌}
use native.Mathlib.Omega.{arith}
use borrow.Author.Tests.{eqb-true, eqb-false}
use Rattle.batch_steps.proofs.Stepping.{newest-used, step-settled, step-skipped, counted-passed, counted-met}
use Rattle.batch_steps.proofs.step.Goals as goal

pub returns-then-not-is_absent : goal.returns-then-not-is_absent
returns-then-not-is_absent g c = step-settled _ _ _ _ _ _ _ (eqb-false _ 8 (sym c.is_absent.ensures ∙ c.if-not-is_absent.true))

pub returns-then-not-takes : goal.returns-then-not-takes
returns-then-not-takes g c =
    step-skipped _ _ _ _ _ _ _ (eqb-true _ 8 (sym c.is_absent.ensures ∙ c.if-not-is_absent.false)) (rw c.read_p.ensures at c.takes.ensures) c.if-not-takes.true

pub count_server-requires-clause-absent : goal.count_server-requires-clause-absent
count_server-requires-clause-absent g c = eqb-true _ 8 (sym c.is_absent.ensures ∙ c.if-not-is_absent.false)

pub met-requires : goal.met-requires
met-requires g c =
    omega (arith, c.args.server.now.few, newest-used _ _ _ _ _ c.newest.ensures _ c.in-Some.is)

pub returns-in-Some : goal.returns-in-Some
returns-in-Some g c =
    counted-met _ _ _ _ _ _ _ (eqb-true _ 8 (sym c.is_absent.ensures ∙ c.if-not-is_absent.false)) (rw c.read_p.ensures at c.takes.ensures) c.if-not-takes.false
    (rw c.requires.of_the_table at c.newest.ensures) c.count_server.ensures _ c.in-Some.is _ (λ l. rw c.requires.of_the_table at (c.met.ensures l)) c.meet.ensures

pub returns-in_default : goal.returns-in_default
returns-in_default g c =
    counted-passed _ _ _ _ _ _ _ (eqb-true _ 8 (sym c.is_absent.ensures ∙ c.if-not-is_absent.false)) (rw c.read_p.ensures at c.takes.ensures) c.if-not-takes.false
    (rw c.requires.of_the_table at c.newest.ensures) c.count_server.ensures c.in_default.is
