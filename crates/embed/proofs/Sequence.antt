-- Calls made one after another are a list of calls: table and medium after them are those after the list. So what the third demand
-- says of every list of calls, it says of every sequence of calls that a caller makes on a started table over blank words.
-- Assumes nothing.
use Prim.Native.Nat.{ℕ, ◌≤◌}
use mathlib.Core.Path.{◌≡◌, refl, sym, ap, ◌∙◌}
use mathlib.Core.Bool.{true, false}
use mathlib.Core.List.{List, [], ◌∷◌}
use Rattle.std.specs.Prelude.{Option, None, Some}
use native.Mathlib.Omega.{arith}
use lib.ListN.{length, replicate}
use lib.Dec.{leb}
use borrow.Author.Tests.{le-leb}
use Rattle.lists.proofs.Tests.{by_bool}
use Rattle.medium.specs.Word.{blank}
use Rattle.table.specs.declared.Table.{Table}
use Rattle.table_words.specs.Words.{table_length, table_from, with_table}
use Rattle.table_words.proofs.Lent.{stored-lent}
use Rattle.servers.specs.Servers.{start_table}
use Rattle.calls.specs.declared.Call.{Call}
use Rattle.history.specs.Call as list
use Rattle.history.specs.Machine.{State, turned, after_turns, after, begin}
use Rattle.encoding.specs.Encoding.{call_length, call_at}
use Rattle.dispatch.specs.OneCall.{next_by}
use Rattle.call_words.specs.CallWords.{lent, fits_call, after_call}
use Rattle.servers.proofs.Starts.{start-arrays}
use Rattle.call_words.proofs.Kept.{length-stored, lent-next}
use Rattle.embed.specs.Sequence.{Runs, unanswered, after_calls, call_in, joined, calls_of}

-- one call
module _ (R : Runs) (call : List ℕ) (l : table_length ≤ length R.table) where
  abbrev S : State
  S = lent R.table R.medium

  -- the runs after it
  abbrev R' : Runs
  R' = let done = after_call R.table R.medium call unanswered in record { table = done.table; medium = done.medium }

  made : leb call_length (length call) ≡ true → (R'.table ≡ with_table R.table (next_by S (call_at call 0)).table) × (R'.medium ≡ (next_by S (call_at call 0)).medium)
  unfolding after_call fits_call
  made e = rw (le-leb table_length (length R.table) l, e) (refl, refl)

  refused : leb call_length (length call) ≡ false → (R'.table ≡ R.table) × (R'.medium ≡ R.medium)
  unfolding after_call fits_call
  refused e = rw (le-leb table_length (length R.table) l, e) (refl, refl)

  one-call : (lent R'.table R'.medium ≡ next_by S (call_in call)) × (table_length ≤ length R'.table)
  unfolding call_in next_by
  one-call = by_bool (leb call_length (length call))
      (λ e.
      let d = made e in
      let n = lent-next R.table R.medium R'.table R'.medium (call_at call 0) l d.0 d.1 in
      rw e (n.0, omega (arith, n.1)))
      (λ e.
      let d = refused e in
      rw e ((λ i. record { table = ap table_from d.0 i; medium = d.1 i }), omega (arith, ap length d.0)))

after-joined : (S : State) (o : Option Call) (calls : List list.Call) → after S (joined o calls) ≡ after (next_by S o) calls
unfolding turned after_turns joined next_by
after-joined S None calls = refl
after-joined S (Some c) calls = refl

-- all of them
pub sequence : (calls : List (List ℕ)) (R : Runs) → table_length ≤ length R.table
    → lent (after_calls R calls).table (after_calls R calls).medium ≡ after (lent R.table R.medium) (calls_of calls)
unfolding after_calls calls_of turned after_turns
sequence [] R l = refl
sequence (call ∷ calls) R l =
    let o = one-call R call l in
    sequence calls (R' R call l) o.1
    ∙ ap (λ (S : State). after S (calls_of calls)) o.0
    ∙ sym (after-joined (lent R.table R.medium) (call_in call) (calls_of calls))

-- from a start over n blank words: the state that the third demand speaks of
pub sequence-started : (capacity salt n : ℕ) (words : List ℕ) → table_length ≤ length words → (calls : List (List ℕ))
    → let R : Runs = record { table = with_table words (start_table capacity salt); medium = replicate n blank } in
    lent (after_calls R calls).table (after_calls R calls).medium ≡ after (begin capacity salt n) (calls_of calls)
unfolding begin
sequence-started capacity salt n words l calls =
    let a = start-arrays capacity salt in
    sequence calls _ (omega (arith, length-stored words (start_table capacity salt) l a))
    ∙ ap (λ (t : Table). after (record { table = t; medium = replicate n blank }) (calls_of calls)) (stored-lent words (start_table capacity salt) l a)
