-- `sheet::run` meets its contract.
use Rattle.std.proofs.Common.{◌≤◌, ◌*◌, length, arith, refl, rules, tests}
use Rattle.std.proofs.lemmas.Fn.{always_returns_same}
use Rattle.sheet.proofs.Sheets.{is_lf, line_in, shorter, one-done, none_left, when_too_long, room-question, room-lines}
use Rattle.sheet.proofs.run.Goals as goal

pub put_question-requires : goal.put_question-requires
put_question-requires c = room-question _ _ c.requires (omega (arith, c.if-input-gt-MAX_INPUT.true))

pub returns-then-input-gt-MAX_INPUT : goal.returns-then-input-gt-MAX_INPUT
returns-then-input-gt-MAX_INPUT c =
    let done = when_too_long c.args.input.now c.args.medium.now c.args.out.now _ _ c.if-input-gt-MAX_INPUT.true c.put_question.ensures.next c.put_question.ensures.bytes in
    record { number = done.0; bytes = done.1.0; words = done.1.1 }

pub run_line-at-requires : goal.run_line-at-requires
run_line-at-requires c =
    let p : 35 * length c.args.input.now ≤ length c.args.out.now = room-lines _ _ c.requires c.if-input-gt-MAX_INPUT.false in
    let steps = c.in-Some.ensures.steps in
    omega (arith, p, c.loop-line.invariant.room)

pub loop-line-preserved : goal.loop-line-preserved
loop-line-preserved c =
    let steps = c.in-Some.ensures.steps in
    let first = (steps.1.2 is_lf (always_returns_same _ _ _ (λ a r q k. search (rules, tests)))).1 in
    let line = line_in _ c.in-Some.line.now _ _ steps.0 steps.1.1 steps.2 first _ _ _ refl c.unwrap_or-line.ensures c.strip_suffix.ensures.cases in
    let ran = c.run_line-at.ensures in
    one-done c.args.input.now c.args.medium.now c.args.out.now _ _ _ _ _ _ _ _ _ _ _ c.loop-line.invariant line (shorter _ c.in-Some.line.now _ _ steps.0 steps.1.1 steps.2 first) ran.next ran.bytes ran.sheet

pub returns : goal.returns
returns c =
    let done = none_left c.args.input.now c.args.medium.now c.args.out.now _ _ _ _ _ c.loop-line.invariant (c.in-None.ensures.steps.0) c.if-input-gt-MAX_INPUT.false in
    record { number = done.0; bytes = done.1.0; words = done.1.1 }
