-- What a call ensures, by whether the runs are long enough.
-- Assumes nothing.
use Prim.Native.Nat.{ℕ, ◌≤◌, ◌<◌}
use mathlib.Core.Path.{◌≡◌, refl, ap, ap₂, ◌∙◌}
use mathlib.Core.Bool.{true, false, ◌&&◌}
use mathlib.Core.List.{List, ◌++◌}
use Rattle.std.specs.Array.{IsFirstChunk}
use Rattle.std.specs.Option.{ForSome}
use Rattle.std.specs.Prelude.{Option, None, Some}
use native.Mathlib.Omega.{arith}
use lib.ListN.{length, take, drop, length-set}
use lib.Dec.{eqb, leb}
use borrow.Author.Tests.{le-leb, lt-leb, leb-true}
use Rattle.lists.specs.Below.{nth}
use Rattle.lists.proofs.Tests.{by_bool, and_l, and_r}
use Rattle.table.specs.declared.Table.{Table}
use Rattle.table.specs.Parts.{with_counters}
use Rattle.table.proofs.Soundness.{Arrays}
use Rattle.table_words.specs.Words.{used_offset, counters_offset, table_length, column_from, counters_from, table_from, with_table}
use Rattle.table_words.proofs.Lent.{length-column, lent-arrays, stored-lent, front-table, front-stored}
use Rattle.upkeep.specs.Upkeep.{one_more}
use Rattle.calls.specs.declared.Call.{Call}
use Rattle.calls.specs.declared.Call.TheVariants.{AddServer, Reweight, Write, Delete, Lookup}
use Rattle.calls.specs.Numbered.{on_servers, is_write}
use Rattle.replies.specs.declared.Reply.{Reply}
use Rattle.history.specs.Machine.{State}
use Rattle.encoding.specs.Encoding.{call_length, reply_length, with_reply_at}
use Rattle.dispatch.specs.OneCall.{reply_to, next_by, used_after, counters_after, with_counts}
use Rattle.dispatch.proofs.Calling.{counts, counted-table}
use Rattle.call_words.proofs.Kept.{call-count, length-stored, stored-again}
use Rattle.call_words.specs.CallWords.{lent, fits_call, where_fits, with_column}
use Rattle.call_words.proofs.Columns.{used-stored, counters-stored}

pub count_fits : (S : State) (o : Option Call) (t : Table) → t ≡ (next_by S o).table → S.table.count < 4294967296 → t.count < 4294967296
count_fits S o t e l = omega (arith, call-count S o l, ap (λ (u : Table). u.count) e)

-- to count an entry changes no length
length-used_after : (used : List ℕ) (o : Option Call) (r : Reply) → length (used_after used o r) ≡ length used
unfolding used_after one_more
length-used_after used None r = refl
length-used_after used (Some (AddServer _)) r = refl
length-used_after used (Some (Reweight _ _)) r = refl
length-used_after used (Some (Write _ _ _)) r = by_bool (eqb r.refusal 0) (λ z. rw z (length-set used r.server _)) (λ z. rw z)
length-used_after used (Some (Delete _ _)) r = refl
length-used_after used (Some (Lookup _ _)) r = refl

-- a call but add_server and reweight, whose reply is r: where its entry is counted, and the words after it
module _ (words m : List ℕ) (o : Option Call) (l : table_length ≤ length words) (r : Reply) (e : r ≡ reply_to (lent words m) o) where
  pub counts-there : ForSome o (λ c. is_write c ≡ true → r.refusal ≡ 0 → (r.server < 256) × (nth (column_from words used_offset) r.server < 65536))
  unfolding table_from
  counts-there c f w z =
      let long = length-column words used_offset (omega arith) in
      let d = counts (lent words m) o r e long c f w z in
      (omega (arith, d.0, long), d.1)

  -- the table with the entry of a write counted, which has whole arrays
  abbrev entered : Table
  entered = with_counts (table_from words) (used_after (column_from words used_offset) o r) (counters_from words)

  entered-arrays : Arrays entered
  unfolding table_from
  entered-arrays =
      let a = lent-arrays words l in
      record {
        weights = a.weights;
        used = length-used_after (column_from words used_offset) o r ∙ a.used;
        numerators = a.numerators;
        denominators = a.denominators;
        counters = a.counters;
      }

  -- the words after that, and after the servers opened are counted too
  pub counted_words : ForSome o (λ c. on_servers c ≡ false) → (words' counters : List ℕ)
      → words' ≡ with_column words used_offset (used_after (column_from words used_offset) o r)
      → counters ≡ counters_after (counters_from words') o r
      → take counters_offset words' ++ (counters ++ drop 8 (drop counters_offset words')) ≡ with_table words (next_by (lent words m) o).table
  unfolding table_from
  counted_words s words' counters f g =
      let one : words' ≡ with_table words entered = f ∙ used-stored words (used_after (column_from words used_offset) o r) l in
      let table : table_from words' ≡ entered = ap table_from one ∙ stored-lent words entered l entered-arrays in
      let long : table_length ≤ length words' = omega (arith, ap length one, length-stored words entered l entered-arrays) in
      counters-stored words' counters _ long g
      ∙ ap₂ (λ (w : List ℕ) (t : Table). with_table w (with_counters t (counters_after t.counters o r))) one table
      ∙ stored-again words entered _ l entered-arrays
      ∙ ap (with_table words) (counted-table (lent words m) o r s e)

-- whether the runs are long enough, by the test of the call and its reply and by the length of the table
module _ (table call reply : List ℕ) where
  pub short_table : length table < table_length → fits_call table call reply ≡ false
  unfolding fits_call
  short_table l = rw (lt-leb _ _ l)

  pub short_call : (leb call_length (length call) && leb reply_length (length reply)) ≡ false → fits_call table call reply ≡ false
  unfolding fits_call
  short_call e = rw e (by_bool (leb table_length (length table)) (λ y. rw y) (λ n. rw n))

  pub all_fit : table_length ≤ length table → (leb call_length (length call) && leb reply_length (length reply)) ≡ true → fits_call table call reply ≡ true
  unfolding fits_call
  all_fit l e = rw (le-leb _ _ l) e

pub call_lengths : (call reply : List ℕ) → (leb call_length (length call) && leb reply_length (length reply)) ≡ true → (call_length ≤ length call) × (reply_length ≤ length reply)
call_lengths call reply e = (leb-true call_length (length call) (search and_l), leb-true reply_length (length reply) (search and_r))

-- what a run answers, and leaves in the words in front and in the medium, said of the words that are lent
abbrev pub Done : List ℕ → List ℕ → List ℕ → List ℕ → (State → Reply) → (State → State) → ℕ → List ℕ → List ℕ → List ℕ → Type 0
Done table m call reply r next number table' m' reply' =
    let S = lent table m in
    let after = where_fits table m call reply (record { number = (r S).refusal; table = with_table table (next S).table; medium = (next S).medium; reply = with_reply_at reply 0 (r S) }) in
    (number ≡ after.number) × ((table' ≡ after.table) × ((m' ≡ after.medium) × (reply' ≡ after.reply)))

pub call_done : (table m call reply : List ℕ) (r : State → Reply) (next : State → State) → (leb call_length (length call) && leb reply_length (length reply)) ≡ true
    → (front front' m' reply' : List ℕ) (told : Reply) → IsFirstChunk table front table_length
    → told ≡ r (lent front m) → front' ≡ with_table front (next (lent front m)).table → m' ≡ (next (lent front m)).medium → reply' ≡ with_reply_at reply 0 told
    → Done table m call reply r next told.refusal (front' ++ drop table_length table) m' reply'
call_done table m call reply r next fit front front' m' reply' told is e t f g =
    let same = front-table table front is in
    let answered = rw same at e in
    let stored = front-stored table front is (λ (u : Table). (next (record { table = u; medium = m })).table) front' t in
    rw (all_fit table call reply is.enough fit) (ap (λ (x : Reply). x.refusal) answered, (stored, (rw same at f, g ∙ ap (with_reply_at reply 0) answered)))
