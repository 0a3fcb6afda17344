-- `embed::archive_start` meets its contract: a start, or the table of zeros where it is refused.
use mathlib.Core.Path.{sym, ap, ◌∙◌}
use borrow.Author.Tests.{le-leb, lt-leb, lt-ltb}
use Rattle.std.specs.Prelude.{Result}
use Rattle.table.specs.declared.Table.{Table}
use Rattle.table_words.specs.Words.{with_table}
use Rattle.table_words.proofs.Lent.{front-stored}
use Rattle.replies.specs.declared.Refusal.{Refusal}
use Rattle.replies.specs.declared.Reply.{Reply}
use Rattle.replies.specs.Reply.{reply_of_check}
use Rattle.servers.specs.Servers.{start_table}
use Rattle.servers.proofs.Starts.{start-number, start-accepted, start-count}
use Rattle.embed.specs.Embed.{start_number}
use Rattle.embed.proofs.archive_start.Goals as goal

pub returns-in_default : goal.returns-in_default
unfolding start_number with_table
returns-in_default c = record { number = rw (lt-leb _ _ c.in_default.ensures.cases); table = rw (lt-ltb _ _ c.in_default.ensures.cases) }

pub store_table-requires : goal.store_table-requires
store_table-requires c = start-count c.args.capacity c.args.salt _ c.in-Ok.ensures.table

pub returns-in-Ok : goal.returns-in-Ok
unfolding start_number
returns-in-Ok c =
    let front = c.in-Some.ensures.cases in
    record {
      number =
          rw (le-leb _ _ front.enough) (sym (start-number c.args.capacity c.args.salt ∙ start-accepted c.args.capacity c.args.salt c.start.ensures.reply c.in-Ok.is));
      table = front-stored c.args.table.now c.in-Some.words.now front (λ (_ : Table). start_table c.args.capacity c.args.salt) _ (c.store_table.ensures ∙ ap (with_table c.in-Some.words.now) c.in-Ok.ensures.table);
    }

pub returns-in-Err : goal.returns-in-Err
unfolding start_number reply_of_check
returns-in-Err c =
    let front = c.in-Some.ensures.cases in
    record {
      number =
          rw (le-leb _ _ front.enough)
          (c.number.ensures ∙ ap (λ (a : Result Table Refusal). (reply_of_check a).refusal) (sym c.in-Err.is) ∙ ap (λ (r : Reply). r.refusal) c.start.ensures.reply);
      table = front-stored c.args.table.now c.in-Some.words.now front (λ (_ : Table). start_table c.args.capacity c.args.salt) _ (c.store_table-in-Err.ensures ∙ ap (with_table c.in-Some.words.now) (c.empty.ensures ∙ c.in-Err.ensures.table));
    }
