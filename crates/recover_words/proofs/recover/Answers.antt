-- `recover_words::recover` meets its contract: by whether there is room for a table, then by what the tests say of the one in front.
use mathlib.Core.Path.{refl, sym, ◌∙◌}
use Rattle.table.specs.declared.Table.{Table}
use Rattle.table_words.proofs.Lent.{front-table, front-kept, front-stored}
use Rattle.replies.proofs.Answers.{number-not-zero, check-refused, check-accepted}
use Rattle.recovery.specs.Recovery.{used_on, with_used}
use Rattle.recovery.proofs.Recovering.{recover-accepted}
use Rattle.recover_words.proofs.Recounting.{no_room, refused, recovered}
use Rattle.recover_words.proofs.recover.Goals as goal

pub returns-in_default : goal.returns-in_default
returns-in_default c =
    let r = no_room c.args.table.now c.args.medium.now c.in_default.ensures.cases in record { number = r.0; table = r.1 }

pub returns-in-Err : goal.returns-in-Err
returns-in-Err c =
    let table = c.args.table.now in
    let front = c.in-Some.ensures.cases in
    let e = check-refused _ (rw (c.view_of.ensures.table, front-table table c.in-Some.words.now front) at c.check-check.ensures) c.in-Err.is in
    let r = refused table c.args.medium.now front.enough _ e (number-not-zero _) in
    record { number = c.number.ensures ∙ r.0; table = front-kept table c.in-Some.words.now front ∙ r.1 }

pub recount-requires : goal.recount-requires
recount-requires c =
    let r = recover-accepted _ _ (check-accepted _ (rw c.view_of.ensures.table at c.check-check.ensures) c.in_default-check.is) in
    record { words_value = r.is_sound; words_in_bounds = r.long }

pub returns : goal.returns
returns c =
    let table = c.args.table.now in
    let m = c.args.medium.now in
    let front = c.in-Some.ensures.cases in
    let z = check-accepted _ (rw (c.view_of.ensures.table, front-table table c.in-Some.words.now front) at c.check-check.ensures) c.in_default-check.is in
    let stored = front-stored table c.in-Some.words.now front (λ (t : Table). with_used t (used_on t.capacity m)) c.recount.new.words c.recount.ensures in
    let r = recovered table m front.enough 0 (sym z) _ refl stored in
    record { number = r.0; table = r.1 }
