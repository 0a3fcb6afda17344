-- `image_words::decode` meets its contract: the table that was read is stored in front, and its count fits into a word.
use mathlib.Core.Path.{ap, ◌∙◌}
use native.Mathlib.Omega.{arith}
use borrow.Author.Tests.{le-leb, lt-leb, lt-ltb}
use Rattle.table.specs.declared.Table.{Table}
use Rattle.table_words.specs.Words.{with_table}
use Rattle.table_words.proofs.Lent.{front-stored}
use Rattle.replies.specs.declared.Reply.{Reply}
use Rattle.replies.proofs.Answers.{number_of_reply}
use Rattle.image.specs.Decoding.{decode_table}
use Rattle.image.proofs.Theorem.{decoded_few}
use Rattle.image_words.specs.ImageWords.{decode_number, after_decode}
use Rattle.image_words.proofs.decode.Goals as goal

pub returns-in_default : goal.returns-in_default
unfolding decode_number after_decode with_table
returns-in_default c = record { number = rw (lt-leb _ _ c.in_default.ensures.cases); table = rw (lt-ltb _ _ c.in_default.ensures.cases) }

pub store_table-requires : goal.store_table-requires
store_table-requires c =
    omega (arith, decoded_few c.args.image.now, ap (λ (t : Table). t.count) c.decode_into-decoded.ensures.table)

pub returns : goal.returns
unfolding decode_number after_decode
returns c =
    let front = c.in-Some.ensures.cases in
    record {
      number = rw (le-leb _ _ front.enough) (c.check_number.ensures ∙ number_of_reply _ ∙ ap (λ (r : Reply). r.refusal) c.decode_into-decoded.ensures.reply);
      table = front-stored c.args.table.now c.in-Some.words.now front (λ (_ : Table). decode_table c.args.image.now) _ (c.store_table.ensures ∙ ap (with_table c.in-Some.words.now) c.decode_into-decoded.ensures.table);
    }
