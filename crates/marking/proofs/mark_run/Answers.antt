-- `marking::mark_run` meets its contract. The invariant: the groups passed are done, as `Marked` says.
use Rattle.std.proofs.Common.{◌≡◌, ◌+◌, ◌*◌, ◌/◌, ◌%◌, arith}
use Rattle.marking.proofs.Marked.{none-marked, more-marked}
use Rattle.marking.proofs.mark_run.Goals as goal

pub loop-group-init : goal.loop-group-init
loop-group-init c =
    let a = c.args in
    none-marked a.medium.now a.id a.from a.content a.burns a.counted

pub loop-group-preserved : goal.loop-group-preserved
loop-group-preserved c =
    let place : c.args.from + 12 * c.loop-group.group ≡ c.args.from + 3 * (4 * c.loop-group.group) = omega arith in
    let next : 4 * (c.loop-group.group + 1) ≡ 4 * c.loop-group.group + 4 = omega arith in
    rw next (more-marked c.loop-group.invariant 4 place c.mark_few-marks.ensures.count c.mark_few-marks.ensures.words)

pub returns : goal.returns
returns c =
    let a = c.args in
    let rest = a.n % 4 in
    let place : a.from + 12 * (a.n / 4) ≡ a.from + 3 * (4 * c.loop-group.group) = omega arith in
    let whole : 4 * c.loop-group.group + rest ≡ a.n = omega arith in
    let done = rw whole at (more-marked c.loop-group.invariant rest place c.mark_few.ensures.count c.mark_few.ensures.words) in
    record { count = done.count; words = done.words }
