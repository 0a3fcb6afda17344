-- `batch_steps::step_all` meets its contract. The invariant: the parts so far are stepped, the rest as they were.
use Rattle.std.proofs.Common.{◌≡◌, ◌∙◌, ◌<◌, rules, refl, ap, length, arith}
use Rattle.lists.specs.Below.{set_below}
use Rattle.batch_steps.specs.Steps.{Progress, progress_of, with_parts, stepped_all}
use Rattle.batch_steps.proofs.Stepping.{part-here, part-more, element-read, part-stored}
use Rattle.batch_steps.proofs.step_all.Goals as goal

pub loop-i-init : goal.loop-i-init
unfolding with_parts set_below
loop-i-init g c = refl

pub step-requires-clause-opened_le_max_servers : goal.step-requires-clause-opened_le_max_servers
step-requires-clause-opened_le_max_servers g c =
    let inside : c.loop-i.i < length c.loop-i.parts.answers = search rules in
    let here = element-read g.A.Answering.numbers c.loop-i.parts c.loop-i.i inside c.index-parts-i.result in
    let same = ap (λ (p : Progress). p.opened) (here ∙ part-here _ _ _ _ _ _ _ _ c.loop-i.invariant) in
    omega (arith, same, c.requires.by_index c.loop-i.i c.loop-i-test.true)

pub loop-i-preserved : goal.loop-i-preserved
loop-i-preserved g c =
    let inside : c.loop-i.i < length c.loop-i.parts.answers = search rules in
    let here = element-read g.A.Answering.numbers c.loop-i.parts c.loop-i.i inside c.index-parts-i.result in
    part-stored g.A.Answering.numbers c.loop-i.parts c.loop-i.i c.step.new.answer c.step.new.end
    ∙ part-more _ _ _ _ _ _ _ _ c.loop-i.invariant {p = progress_of (g.A.Answering.numbers c.step.new.answer) c.step.new.end} c.step.ensures here

pub returns : goal.returns
unfolding stepped_all
returns g c =
    let e : c.loop-i.i ≡ length c.args.ids.now.all.now = omega arith in
    rw (← e) c.loop-i.invariant
