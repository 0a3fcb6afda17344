-- `replay::resume` meets its contract: no call where there are too few words, and else as many as both slices have room for.
use Rattle.table.specs.declared.Table.{Table}
use Rattle.table_words.proofs.Lent.{front-table, front-stored}
use Rattle.history.specs.Machine.{after}
use Rattle.replay.specs.Replay.{calls_below}
use Rattle.replay.proofs.Lent.{none-resumed, room-resumed}
use Rattle.replay.proofs.resume.Goals as goal

pub returns-in_default : goal.returns-in_default
returns-in_default c =
    let r = none-resumed c.args.table.now c.args.medium.now c.args.calls.now c.args.replies.now c.in_default.ensures.cases in
    record { number = r.0; table = r.1.0; words = r.1.1.0; replies = r.1.1.1 }

pub returns : goal.returns
returns c =
    let table = c.args.table.now in
    let m = c.args.medium.now in
    let calls = c.args.calls.now in
    let front = c.in-Some.ensures.cases in
    let same = front-table table c.in-Some.words.now front in
    record {
      number = room-resumed table m calls c.args.replies.now _ front.enough c.room-n.ensures;
      table = front-stored table c.in-Some.words.now front (λ (t : Table). (after (record { table = t; medium = m }) (calls_below calls c.room-n.result)).table) _ c.run_calls.ensures.table;
      words = rw same at c.run_calls.ensures.words;
      replies = rw same at c.run_calls.ensures.replies;
    }
