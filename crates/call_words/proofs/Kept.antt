-- What a call keeps of a table lent as words: arrays that are whole, a count below 2^32, and the number of the words.
-- Assumes nothing.
use Prim.Native.Nat.{ℕ, ◌≤◌, ◌<◌}
use mathlib.Core.Path.{◌≡◌, sym, ap, ◌∙◌}
use mathlib.Core.List.{List, ◌++◌}
use Rattle.std.specs.Prelude.{Option, None, Some}
use native.Mathlib.Omega.{arith}
use lib.ListN.{length, drop, length-append, length-drop}
use lib.Seq.{drop_at}
use borrow.Author.Tests.{le-ltb}
use Rattle.table.specs.declared.Table.{Table}
use Rattle.table.proofs.Soundness.{Arrays}
use Rattle.table_words.specs.Words.{table_length, table_from, words_of, with_table}
use Rattle.table_words.proofs.Lent.{lent-arrays, stored-lent}
use Rattle.upkeep.specs.Upkeep.{with_server, with_weight, with_entry, with_opened}
use Rattle.upkeep.proofs.Upkeep.{with_server-arrays, with_weight-arrays, with_entry-arrays, with_opened-arrays}
use Rattle.replies.proofs.Refusals.{settle-either}
use Rattle.lookup.specs.Lookup.{lookup_table}
use Rattle.planning.specs.WriteRows.{target, write_rows}
use Rattle.writing.specs.Writing.{write_table}
use Rattle.server_rows.specs.ServerRows.{add_server_rows, reweight_rows}
use Rattle.server_rows.proofs.Accepted.{add_server-accepted}
use Rattle.servers.specs.Servers.{add_server_table, reweight_table}
use Rattle.batch.specs.Batch.{batch_table}
use Rattle.history.specs.Call.{add_server, reweight, write, delete, lookup, batch}
use Rattle.history.specs.Call as list
use Rattle.calls.specs.declared.Call.{Call}
use Rattle.history.specs.Machine.{State, next}
use Rattle.dispatch.specs.OneCall.{in_list, next_by}
use Rattle.call_words.specs.CallWords.{lent}
use Rattle.call_words.proofs.Columns.{long-table}

-- a call keeps the arrays whole
next-arrays : (S : State) (c : list.Call) → Arrays S.table → Arrays (next S c).table
unfolding next add_server_table reweight_table write_table lookup_table batch_table
next-arrays S (add_server weight) a = settle-either (add_server_rows S.table S.medium weight) _ _ Arrays (λ _. with_server-arrays S.table weight a) a
next-arrays S (reweight server weight) a = settle-either (reweight_rows S.table server weight) _ _ Arrays (λ _. with_weight-arrays S.table server weight a) a
next-arrays S (write tenant id value) a = settle-either (write_rows S.table S.medium tenant id value) _ _ Arrays (λ _. with_entry-arrays S.table (target S.table id) a) a
next-arrays S (delete tenant id) a = a
next-arrays S (lookup tenant id) a = with_opened-arrays S.table tenant _ a
next-arrays S (batch tenant ids) a = with_opened-arrays S.table tenant _ a

pub call-arrays : (S : State) (o : Option Call) → Arrays S.table → Arrays (next_by S o).table
unfolding next_by
call-arrays S None a = a
call-arrays S (Some c) a = next-arrays S (in_list c) a

-- to store a table changes no length
pub length-stored : (words : List ℕ) (t : Table) → table_length ≤ length words → Arrays t → length (with_table words t) ≡ length words
unfolding with_table words_of
length-stored words t l a =
    rw (le-ltb (length words) table_length l)
    (simp length-append (omega (arith, a.weights, a.used, a.numerators, a.denominators, a.counters, length-drop table_length words)))

length-words : (t : Table) → Arrays t → length (words_of t) ≡ table_length
unfolding words_of
length-words t a = simp length-append (omega (arith, a.weights, a.used, a.numerators, a.denominators, a.counters))

rest-stored : (words : List ℕ) (t : Table) → table_length ≤ length words → Arrays t → drop table_length (with_table words t) ≡ drop table_length words
rest-stored words t l a = ap (drop table_length) (sym (long-table words t l)) ∙ drop_at (words_of t) (drop table_length words) table_length (length-words t a)

-- and to store another one leaves nothing of the first
pub stored-again : (words : List ℕ) (t u : Table) → table_length ≤ length words → Arrays t → with_table (with_table words t) u ≡ with_table words u
stored-again words t u l a =
    let long : table_length ≤ length (with_table words t) = omega (arith, length-stored words t l a) in
    sym (long-table (with_table words t) u long)
    ∙ ap (λ (rest : List ℕ). words_of u ++ rest) (rest-stored words t l a)
    ∙ long-table words u l

-- the words and the medium after a call are lent as the state after it
pub lent-next : (words m words' m' : List ℕ) (o : Option Call) → table_length ≤ length words
    → words' ≡ with_table words (next_by (lent words m) o).table → m' ≡ (next_by (lent words m) o).medium
    → (lent words' m' ≡ next_by (lent words m) o) × (length words' ≡ length words)
lent-next words m words' m' o l e f =
    let a = call-arrays (lent words m) o (lent-arrays words l) in
    let t : table_from words' ≡ (next_by (lent words m) o).table = ap table_from e ∙ stored-lent words _ l a in
    ((λ i. record { table = t i; medium = f i }), ap length e ∙ length-stored words _ l a)

-- a count below 2^32
abbrev pub Fits : Table → Type 0
Fits t = t.count < 4294967296

-- a call leaves it so: it changes it only where the table is sound, and so the count small
next-count : (S : State) (c : list.Call) → Fits S.table → Fits (next S c).table
unfolding next add_server_table reweight_table write_table lookup_table batch_table with_server with_weight with_entry with_opened
next-count S (add_server weight) l =
    settle-either (add_server_rows S.table S.medium weight) _ _ Fits (λ z. omega (arith, (add_server-accepted S.table S.medium weight z).few)) l
next-count S (reweight server weight) l = settle-either (reweight_rows S.table server weight) _ _ Fits (λ z. l) l
next-count S (write tenant id value) l = settle-either (write_rows S.table S.medium tenant id value) _ _ Fits (λ z. l) l
next-count S (delete tenant id) l = l
next-count S (lookup tenant id) l = l
next-count S (batch tenant ids) l = l

pub call-count : (S : State) (o : Option Call) → Fits S.table → Fits (next_by S o).table
unfolding next_by
call-count S None l = l
call-count S (Some c) l = next-count S (in_list c) l
