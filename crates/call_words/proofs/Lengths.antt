-- What a call leaves where one of its runs is too short, and where none is.
-- Assumes nothing.
use Prim.Native.Nat.{ℕ, ◌≤◌, ◌<◌}
use mathlib.Core.Path.{◌≡◌, refl, ap, ◌∙◌}
use mathlib.Core.Bool.{false}
use mathlib.Core.List.{List}
use Rattle.std.specs.Prelude.{Option}
use lib.ListN.{length}
use borrow.Author.Tests.{le-leb, lt-leb}
use Rattle.table.specs.declared.Table.{Table}
use Rattle.table_words.specs.Words.{table_length, table_from, with_table}
use Rattle.calls.specs.declared.Call.{Call}
use Rattle.replies.specs.declared.Reply.{Reply}
use Rattle.encoding.specs.Encoding.{call_length, reply_length, too_short, with_reply_at}
use Rattle.dispatch.specs.OneCall.{reply_to, next_by}
use Rattle.call_words.specs.CallWords.{lent, AfterCall, fits_call, where_fits}

-- what `run` ensures
abbrev pub Ran : List ℕ → List ℕ → Option Call → Reply → List ℕ → List ℕ → Type 0
Ran words m o r words' m' = (r ≡ reply_to (lent words m) o) × ((words' ≡ with_table words (next_by (lent words m) o).table) × (m' ≡ (next_by (lent words m) o).medium))

-- by a table by value
pub by_value : (words m : List ℕ) (o : Option Call) (r : Reply) (t t' : Table) (words' m' : List ℕ) → t ≡ table_from words
    → r ≡ reply_to (record { table = t; medium = m }) o → t' ≡ (next_by (record { table = t; medium = m }) o).table → m' ≡ (next_by (record { table = t; medium = m }) o).medium
    → words' ≡ with_table words t' → Ran words m o r words' m'
by_value words m o r t t' words' m' e a b c d = (rw e at a, (d ∙ ap (with_table words) (rw e at b), rw e at c))

-- what a call leaves where it answers n
abbrev pub Leaves : AfterCall → ℕ → List ℕ → List ℕ → List ℕ → Type 0
Leaves after n table m reply = (n ≡ after.number) × ((table ≡ after.table) × ((m ≡ after.medium) × (reply ≡ after.reply)))

module _ (table m call reply : List ℕ) (done : AfterCall) where
  pub when_too_short : fits_call table call reply ≡ false → Leaves (where_fits table m call reply done) too_short table m reply
  when_too_short e = rw e (refl, (refl, (refl, refl)))

  pub table-short : length table < table_length → Leaves (where_fits table m call reply done) too_short table m reply
  unfolding fits_call
  table-short l = when_too_short (rw (lt-leb _ _ l))

  pub words-short : table_length ≤ length table → length call < call_length → Leaves (where_fits table m call reply done) too_short table m reply
  unfolding fits_call
  words-short a l = when_too_short (rw (le-leb _ _ a, lt-leb _ _ l))

  pub reply-short : table_length ≤ length table → call_length ≤ length call → length reply < reply_length → Leaves (where_fits table m call reply done) too_short table m reply
  unfolding fits_call
  reply-short a b l = when_too_short (rw (le-leb _ _ a, le-leb _ _ b, lt-leb _ _ l))

-- the call is run, and its reply is stored
module _ (table m call reply : List ℕ) (r' : Reply) (t : Table) (m' : List ℕ) where
  pub call-done : table_length ≤ length table → call_length ≤ length call → reply_length ≤ length reply
      → (r : Reply) (table₂ m₂ reply₂ : List ℕ) → r ≡ r' → table₂ ≡ with_table table t → m₂ ≡ m' → reply₂ ≡ with_reply_at reply 0 r
      → Leaves (where_fits table m call reply (record { number = r'.refusal; table = with_table table t; medium = m'; reply = with_reply_at reply 0 r' })) r.refusal table₂ m₂ reply₂
  unfolding fits_call
  call-done a b d r table₂ m₂ reply₂ e f g h =
      rw (le-leb _ _ a, le-leb _ _ b, le-leb _ _ d) (ap (λ (x : Reply). x.refusal) e, (f, (g, h ∙ ap (with_reply_at reply 0) e)))
