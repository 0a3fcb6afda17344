-- `image_words::encode` meets its contract: a number of words fits into a word, and a refused encode stores none.
use Prim.Native.Nat.{ℕ, ◌≤◌}
use mathlib.Core.Path.{◌≡◌, refl, ap, ◌∙◌}
use mathlib.Core.List.{List}
use native.Mathlib.Omega.{arith}
use lib.ListN.{length, set}
use borrow.Author.Tests.{ne_eqb, le-leb, lt-leb}
use Rattle.std.proofs.lemmas.List.{set-get_or}
use Rattle.std.specs.Prelude.{Ok, Err}
use Rattle.table_words.specs.Words.{table_length, table_from}
use Rattle.table_words.proofs.Lent.{front-table}
use Rattle.replies.specs.declared.Refusal.{Refusal}
use Rattle.replies.specs.Reply.{number_of}
use Rattle.replies.proofs.Answers.{number-not-zero}
use Rattle.image.specs.Encoding.{reply_of_encode, encode_reply, encode_words}
use Rattle.image.proofs.Theorem.{encoded_few}
use Rattle.image_words.specs.ImageWords.{with_size, fits_encode, after_encode}
use Rattle.image_words.proofs.encode.Goals as goal

-- where there is room for the table and for the number of words
module _ (table d size : List ℕ) (l : table_length ≤ length table) (s : 1 ≤ length size) where
  refused : (r : Refusal) → reply_of_encode (Err r) ≡ encode_reply (table_from table) d
      → (number_of r ≡ (after_encode table d size).number) × (size ≡ (after_encode table d size).size)
  unfolding after_encode fits_encode with_size reply_of_encode
  refused r e = rw (le-leb _ _ l, le-leb _ _ s, ← e, ne_eqb (number_of r) 0 (number-not-zero r)) (refl, refl)

  written : (n : ℕ) → reply_of_encode (Ok n) ≡ encode_reply (table_from table) d
      → (0 ≡ (after_encode table d size).number) × (set size 0 n ≡ (after_encode table d size).size)
  unfolding after_encode fits_encode with_size reply_of_encode
  written n e = rw (le-leb _ _ l, le-leb _ _ s, ← e) (refl, refl)

  destination : encode_words (table_from table) d ≡ (after_encode table d size).destination
  unfolding after_encode fits_encode
  destination = rw (le-leb _ _ l, le-leb _ _ s)

pub returns-in_default : goal.returns-in_default
unfolding after_encode fits_encode
returns-in_default c = rw (lt-leb _ _ c.in_default.ensures.cases) (record { number = refl; destination = refl; size = refl })

pub returns-in_default-first_mut : goal.returns-in_default-first_mut
unfolding after_encode fits_encode
returns-in_default-first_mut c =
    rw (le-leb _ _ c.in-Some.ensures.cases.enough, lt-leb 1 (length c.args.size.now) (omega (arith, c.in_default-first_mut.ensures.item.3))) (record { number = refl; destination = refl; size = refl })

pub overflow_cast-first : goal.overflow_cast-first
overflow_cast-first c = omega (arith, encoded_few _ _ _ c.in-Ok.ensures.reply)

pub returns-in-Err : goal.returns-in-Err
returns-in-Err c =
    let a = c.args in
    let front = c.in-Some.ensures.cases in
    let word = c.in-Some-first_mut.ensures.item in
    let same = c.view_of.ensures.table ∙ front-table a.table.now c.in-Some.words.now front in
    let some : 1 ≤ length a.size.now = omega (arith, word.3.0) in
    let r = refused a.table.now a.destination.now a.size.now front.enough some c.in-Err.refusal (rw same at c.in-Err.ensures.reply) in
    record {
      number = c.number.ensures ∙ r.0;
      destination = (rw same at c.in-Err.ensures.words) ∙ destination a.table.now a.destination.now a.size.now front.enough some;
      size = ap (set a.size.now 0) word.1 ∙ set-get_or a.size.now 0 _ ∙ r.1;
    }

pub returns-in-Ok : goal.returns-in-Ok
returns-in-Ok c =
    let a = c.args in
    let front = c.in-Some.ensures.cases in
    let same = c.view_of.ensures.table ∙ front-table a.table.now c.in-Some.words.now front in
    let some : 1 ≤ length a.size.now = omega (arith, c.in-Some-first_mut.ensures.item.3.0) in
    let r = written a.table.now a.destination.now a.size.now front.enough some c.in-Ok.n (rw same at c.in-Ok.ensures.reply) in
    record {
      number = r.0;
      destination = (rw same at c.in-Ok.ensures.words) ∙ destination a.table.now a.destination.now a.size.now front.enough some;
      size = r.1;
    }
