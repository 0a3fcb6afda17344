-- `marking::invalidate_server` meets its contract. The invariant: the entries passed are done, as `Marked` says.
use Rattle.std.proofs.Common.{◌≡◌, ◌+◌, ◌*◌, sym, refl, ◌∙◌, arith}
use Rattle.scan.proofs.Passing.{none-by-words}
use Rattle.marking.proofs.Runs.{server-run}
use Rattle.marking.proofs.Marked.{none-marked, more-marked, none_more}
use Rattle.marking.proofs.invalidate_server.Goals as goal
use Rattle.marking.proofs.invalidate_server.Goals.{then-left-lt-FEW, else-left-lt-FEW+else-has}

pub loop-done-init : goal.loop-done-init
loop-done-init c =
    let a = c.args in
    (omega arith, none-marked a.medium.now a.id c.entry_at-first.result a.content a.burns a.n)

pub loop-done-preserved : goal.loop-done-preserved
loop-done-preserved c =
    let done = c.loop-done.invariant.1 in
    let place : c.entry_at-first.result + 3 * c.loop-done.done ≡ c.entry_at-first.result + 3 * c.loop-done.done = refl in
    elim c.if-left-lt-FEW.branch [
      | then-left-lt-FEW w ↦ (
        omega (arith, w.step-is, w.min-step.ensures, c.loop-done-test.true),
        rw w.step-is (more-marked done w.min-step.result place (w.marks-is ∙ w.mark_run-marks.ensures.count) (w.medium-is ∙ w.mark_run-marks.ensures.words)),
      )
      | else-left-lt-FEW+else-has w ↦ (
        omega (arith, w.step-is, w.if-left-lt-FEW.false),
        rw w.step-is (none_more done 32 place (none-by-words _ _ _ 32 (sym w.has.ensures ∙ w.if-has.false)) w.marks-is w.medium-is),
      )
    ]

pub returns : goal.returns
returns c =
    let a = c.args in
    let whole : c.loop-done.done ≡ a.used = omega (arith, c.loop-done.invariant.0, c.loop-done-test.false) in
    let done = rw whole at c.loop-done.invariant.1 in
    rw (server-run a.capacity a.used a.medium.now a.id a.server, ← c.entry_at-first.ensures) (record { count = done.count; words = done.words })
