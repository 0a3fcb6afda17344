-- An encoded list of calls, run call by call: what holds once i calls are run, and where their replies stand.
-- Assumes nothing.
use Prim.Native.Nat.{ℕ, zero, suc, ◌+◌, ◌*◌, ◌≤◌, ◌<◌}
use mathlib.Core.Path.{◌≡◌, refl, sym, ap, ap₂, ◌∙◌, subst}
use mathlib.Core.Logic.{◌≢◌}
use mathlib.Core.List.{List, [], ◌∷◌}
use Rattle.std.specs.Prelude.{Option, None, Some}
use native.Mathlib.Numerals.{add-one}
use native.Mathlib.Omega.{arith}
use lib.ListN.{length}
use lib.Dec.{eqb}
use borrow.Author.Tests.{eqb-true, eqb-false}
use Rattle.lists.specs.Below.{nth}
use Rattle.lists.proofs.Tests.{by_bool}
use Rattle.lists.proofs.Below.{replicate-all}
use Rattle.medium.specs.Word.{blank}
use Rattle.table.specs.declared.Table.{Table}
use Rattle.table.proofs.Soundness.{Arrays}
use Rattle.table_words.specs.Words.{table_length, table_from, with_table}
use Rattle.table_words.proofs.Lent.{lent-arrays, stored-lent}
use Rattle.replies.specs.Refusal.{first_of}
use Rattle.replies.specs.declared.Reply.{Reply}
use Rattle.replies.proofs.Refusals.{settle-yes, settle-no}
use Rattle.server_rows.specs.ServerRows.{start_rows}
use Rattle.servers.specs.Servers.{start_table}
use Rattle.servers.proofs.Starts.{start-arrays}
use Rattle.calls.specs.declared.Call.{Call}
use Rattle.history.specs.Call.{compared}
use Rattle.history.specs.Call as list
use Rattle.history.specs.Machine.{State, turned, after_turns, after, begin, start_state}
use Rattle.history.specs.Ledger.{fresh_ledger, ledger_after}
use Rattle.history.proofs.Unaltered.{after-calls}
use Rattle.history.proofs.Run.{begin-agrees, step, run-calls}
use Rattle.encoding.specs.Encoding.{reply_length, room_for, call_at, with_reply}
use Rattle.dispatch.specs.OneCall.{in_list, reply_to, next_by}
use Rattle.encoding.proofs.Storing.{Stored, length-with_reply, stored_here, stored-below}
use Rattle.call_words.specs.CallWords.{lent}
use Rattle.call_words.proofs.Columns.{stored_same}
use Rattle.call_words.proofs.Kept.{call-arrays, length-stored, stored-again, lent-next}
use Rattle.replay.specs.Replay.{appended, calls_below, ledger_reply_to, with_replies, runs, reply_at, ledger_reply_at, LedgerWords}

-- one call more
appended-after : (S : State) (calls : List list.Call) (o : Option Call) → after S (appended calls o) ≡ next_by (after S calls) o
unfolding appended next_by turned after_turns
appended-after S calls None = refl
appended-after S calls (Some c) = after-calls calls (in_list c ∷ []) S

after_more : (S : State) (calls : List ℕ) (i : ℕ) → after S (calls_below calls (i + 1)) ≡ next_by (after S (calls_below calls i)) (call_at calls i)
unfolding calls_below
after_more S calls i = rw add-one (appended-after S (calls_below calls i) (call_at calls i))

pub replies-more : (f : ℕ → Reply) (i : ℕ) (words : List ℕ) → with_replies f (i + 1) words ≡ with_reply (with_replies f i words) i (f i)
unfolding with_replies
replies-more f i words = rw add-one

module _ (f : ℕ → Reply) (words : List ℕ) where
  pub length-with_replies : (n : ℕ) → length (with_replies f n words) ≡ length words
  unfolding with_replies
  length-with_replies zero = refl
  length-with_replies (suc n) = length-with_reply (with_replies f n words) n (f n) ∙ length-with_replies n

  stored-all : (n : ℕ) → reply_length * n ≤ length words → (i : ℕ) → i < n → Stored (with_replies f n words) i (f i)
  unfolding with_replies
  stored-all zero fits i l = absurd (omega arith)
  stored-all (suc n) fits i l = by_bool (eqb i n)
      (λ d. rw (eqb-true i n d) (stored_here (with_replies f n words) n (f n) (omega (arith, length-with_replies n))))
      (λ d.
      let h : i < n = omega (arith, eqb-false i n d) in
      stored-below (with_replies f n words) n (f n) i (f i) h (stored-all n (omega arith) i h))

-- on blank words the replies are the plain ledger's
module _ (capacity salt : ℕ) (z : first_of (start_rows capacity salt) ≡ 0) (m : List ℕ) (b : (a : ℕ) → a < length m → nth m a ≡ blank) where
  ledger-alike : (calls : List list.Call) (o : Option Call) → compared (reply_to (after (begin capacity salt (length m)) calls) o) ≡ ledger_reply_to (ledger_after (fresh_ledger capacity salt (length m)) calls) o
  unfolding reply_to ledger_reply_to compared
  ledger-alike calls None = refl
  ledger-alike calls (Some c) =
      let r = run-calls calls (begin capacity salt (length m)) (fresh_ledger capacity salt (length m)) (begin-agrees capacity salt (length m) z) in
      (step _ _ r.agrees (in_list c)).alike

  alike_at : (calls : List ℕ) (i : ℕ) → compared (reply_at (start_state capacity salt m) calls i) ≡ ledger_reply_at capacity salt (length m) calls i
  unfolding reply_at ledger_reply_at begin
  alike_at calls i =
      ap (λ (w : List ℕ). compared (reply_to (after (start_state capacity salt w) (calls_below calls i)) (call_at calls i))) (replicate-all blank m b)
      ∙ ledger-alike (calls_below calls i) (call_at calls i)

ledger-words : (capacity salt : ℕ) → first_of (start_rows capacity salt) ≡ 0 → (m calls words : List ℕ) (n : ℕ) → reply_length * n ≤ length words
    → LedgerWords capacity salt m calls n (with_replies (reply_at (start_state capacity salt m) calls) n words)
unfolding compared
ledger-words capacity salt z m calls words n fits = record {
  alike = λ b i l.
      let s = stored-all (reply_at (start_state capacity salt m) calls) words n fits i l in
      rw (s.refusal, s.server, s.value, s.opened) (alike_at capacity salt z m b calls i);
}

-- once i calls are run on a table lent as words
pub record Replayed (words m calls replies : List ℕ) (i : ℕ) (words' medium replies' : List ℕ) : Type 0 where
  pub state : lent words' medium ≡ after (lent words m) (calls_below calls i)
  pub table : words' ≡ with_table words (after (lent words m) (calls_below calls i)).table
  pub stored : replies' ≡ with_replies (reply_at (lent words m) calls) i replies
  pub same_table : length words' ≡ length words
  pub same_medium : length medium ≡ length m
  pub same_replies : length replies' ≡ length replies

module _ (words m calls replies : List ℕ) (l : table_length ≤ length words) where
  -- the state that is run from
  abbrev S : State
  S = lent words m

  after-arrays : (i : ℕ) → Arrays (after S (calls_below calls i)).table
  unfolding turned after_turns calls_below
  after-arrays zero = lent-arrays words l
  after-arrays (suc i) = subst (λ (T : State). Arrays T.table) (sym (appended-after S (calls_below calls i) (call_at calls i))) (call-arrays (after S (calls_below calls i)) (call_at calls i) (after-arrays i))

  pub none-run : Replayed words m calls replies 0 words m replies
  unfolding turned after_turns calls_below with_replies
  none-run = record { state = refl; table = sym (stored_same words l); stored = refl; same_table = refl; same_medium = refl; same_replies = refl }

  pub one-run : (i : ℕ) (words₁ words₂ medium medium' replies₁ replies₂ : List ℕ) (o : Option Call) (r : Reply)
      → Replayed words m calls replies i words₁ medium replies₁
      → o ≡ call_at calls i
      → r ≡ reply_to (lent words₁ medium) o
      → words₂ ≡ with_table words₁ (next_by (lent words₁ medium) o).table
      → medium' ≡ (next_by (lent words₁ medium) o).medium
      → length medium' ≡ length medium → replies₂ ≡ with_reply replies₁ i r
      → Replayed words m calls replies (i + 1) words₂ medium' replies₂
  unfolding reply_at
  one-run i words₁ words₂ medium medium' replies₁ replies₂ o r d here e f g h s =
      let T = after S (calls_below calls i) in
      let T' = after S (calls_below calls (i + 1)) in
      let long : table_length ≤ length words₁ = omega (arith, d.same_table) in
      let next : next_by (lent words₁ medium) o ≡ T' = ap₂ next_by d.state here ∙ sym (after_more S calls i) in
      let kept = lent-next words₁ medium words₂ medium' o long f g in
      let w : words₂ ≡ with_table words T'.table =
      f ∙ ap (λ (U : State). with_table words₁ U.table) next ∙ ap (λ (v : List ℕ). with_table v T'.table) d.table ∙ stored-again words T.table T'.table l (after-arrays i)
      in
      record {
        state = kept.0 ∙ next;
        table = w;
        stored =
            s
            ∙ ap₂ (λ (v : List ℕ) (x : Reply). with_reply v i x) d.stored (e ∙ ap₂ reply_to d.state here)
            ∙ sym (replies-more (reply_at S calls) i replies);
        same_table = kept.1 ∙ d.same_table;
        same_medium = h ∙ d.same_medium;
        same_replies = ap length s ∙ length-with_reply replies₁ i r ∙ d.same_replies;
      }

-- what `replay` ensures where it answers n
abbrev pub Done : ℕ → ℕ → List ℕ → List ℕ → List ℕ → ℕ → List ℕ → List ℕ → Type 0
Done capacity salt m calls words n medium replies =
    (n ≡ runs capacity salt calls words)
    × ((medium ≡ (after (start_state capacity salt m) (calls_below calls n)).medium)
    × ((replies ≡ with_replies (reply_at (start_state capacity salt m) calls) n words)
    × LedgerWords capacity salt m calls n replies))

module _ (capacity salt : ℕ) (m calls words : List ℕ) where
  -- none, from a start that was refused
  pub refused-run : first_of (start_rows capacity salt) ≢ 0 → Done capacity salt m calls words 0 m words
  unfolding runs turned after_turns calls_below with_replies
  refused-run f = (sym (settle-no (start_rows capacity salt) _ 0 f), (refl, (refl, record { alike = λ b i l. absurd (omega arith) })))

  -- all of them, from a start that was accepted
  pub all-run : (n : ℕ) (S : State) (medium replies : List ℕ) → first_of (start_rows capacity salt) ≡ 0 → n ≡ room_for (length calls) (length words)
      → S ≡ start_state capacity salt m
      → medium ≡ (after S (calls_below calls n)).medium
      → replies ≡ with_replies (reply_at S calls) n words
      → Done capacity salt m calls words n medium replies
  unfolding runs
  all-run n S medium replies z o b d e =
      let r : replies ≡ with_replies (reply_at (start_state capacity salt m) calls) n words = rw b at e in
      (o ∙ sym (settle-yes (start_rows capacity salt) _ 0 z), (rw b at d, (r, rw r (ledger-words capacity salt z m calls words n (omega arith)))))

-- a started table, stored in front of words
pub started-words : (capacity salt : ℕ) (m words words' : List ℕ) (t : Table) → table_length ≤ length words → t ≡ start_table capacity salt → words' ≡ with_table words t
    → (lent words' m ≡ start_state capacity salt m) × (table_length ≤ length words')
started-words capacity salt m words words' t l e f =
    let a = start-arrays capacity salt in
    let w : words' ≡ with_table words (start_table capacity salt) = rw e at f in (
      ap (λ (u : Table). record { table = u; medium = m }) (ap table_from w ∙ stored-lent words (start_table capacity salt) l a),
      omega (arith, ap length w, length-stored words (start_table capacity salt) l a),
    )
