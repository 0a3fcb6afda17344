-- `sheet_start::run_start` meets its contract: a start that is refused, and one that is accepted.
use Rattle.std.proofs.Common.{◌≡◌, length, replicate, rules}
use Rattle.medium.specs.Word.{blank}
use Rattle.sheet_start.proofs.Starting.{start-refused, start-accepted}
use Rattle.sheet_start.proofs.run_start.Goals as goal

pub returns-in_default : goal.returns-in_default
returns-in_default c =
    let done = start-refused c.args.in_use.now c.args.medium.now c.args.capacity _ _ c.check_number-refusal.ensures c.start-started.ensures.reply c.in_default.is in
    record { next = rw done c.put_answer-next.ensures.next; bytes = rw done c.put_answer-next.ensures.bytes; sheet = rw done }

pub returns-in-Ok : goal.returns-in-Ok
returns-in-Ok c =
    let all : c.fill.new.self ≡ replicate (length c.args.medium.now) blank = search rules in
    let done = start-accepted c.args.in_use.now c.args.medium.now c.args.capacity _ _ c.check_number-refusal.ensures c.start-started.ensures.reply c.in-Ok.is c.start-started.ensures.table _ all in
    record { next = rw done c.put_answer-next.ensures.next; bytes = rw done c.put_answer-next.ensures.bytes; sheet = rw done }
