-- `marking::mark_few` meets its contract. The invariant: the entries passed are done, as `Marked` says.
use Rattle.std.proofs.Common.{refl, ◌∙◌}
use Rattle.marking.proofs.Marked.{none-marked, one-not, one-marked, one_left}
use Rattle.marking.proofs.mark_few.Goals as goal
use Rattle.marking.proofs.mark_few.Goals.{else-bears, else-marks-burns, then-bears, then-marks-burns}

pub loop-i-init : goal.loop-i-init
loop-i-init c =
    let a = c.args in
    none-marked a.medium.now a.id a.from a.content a.burns a.counted

pub loop-i-preserved : goal.loop-i-preserved
loop-i-preserved c =
    let done = c.loop-i.invariant in
    let test = c.bears.ensures in
    elim c.if-bears.branch [
      | then-bears w ↦ (elim w.if-marks-burns.branch [
        | then-marks-burns x ↦ one-marked done refl test w.if-bears.true w.marks-is x.if-marks-burns.true (w.medium-is ∙ rw c.mark_word-word.ensures at x.medium-is)
        | else-marks-burns x ↦ one_left done refl test w.if-bears.true w.marks-is x.if-marks-burns.false (w.medium-is ∙ x.medium-is)
      ])
      | else-bears w ↦ one-not done refl test w.if-bears.false w.marks-is w.medium-is
    ]
