-- `line_run::run_line` meets its contract: a line that can't be read, a start, and a call.
use Rattle.std.proofs.Common.{rules}
use Rattle.line_run.specs.LineRun.{line_run}
use Rattle.line_run.proofs.run_line.Goals as goal

pub returns-in_default : goal.returns-in_default
unfolding line_run
returns-in_default c =
    let none = c.in_default.ensures in
    record { next = rw (← none) c.put_question.ensures.next; bytes = rw (← none) c.put_question.ensures.bytes; sheet = rw (← none) (search rules) }

pub returns-in-Start : goal.returns-in-Start
unfolding line_run
returns-in-Start c =
    let line = c.in-Some.ensures in
    let ran = c.run_start.ensures in
    record { next = rw (← line, c.in-Start.is) ran.next; bytes = rw (← line, c.in-Start.is) ran.bytes; sheet = rw (← line, c.in-Start.is) ran.sheet }

pub returns-in-Call : goal.returns-in-Call
unfolding line_run
returns-in-Call c =
    let line = c.in-Some.ensures in
    let ran = c.run_call.ensures in
    record { next = rw (← line, c.in-Call.is) ran.next; bytes = rw (← line, c.in-Call.is) ran.bytes; sheet = rw (← line, c.in-Call.is) ran.sheet }
