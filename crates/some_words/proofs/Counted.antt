-- The words of a table after a write or a delete with a number of burns, by the test whether none is left over.
-- Assumes nothing.
use Prim.Native.Nat.{ℕ, ◌+◌, ◌≤◌, ◌<◌}
use mathlib.Core.Path.{◌≡◌, refl, sym, ap, ◌∙◌}
use mathlib.Core.Bool.{Bool, true, false, cond}
use mathlib.Core.List.{List}
use Rattle.std.specs.Option.{ForSome}
use Rattle.std.specs.Prelude.{Option, None, Some}
use lib.ListN.{length}
use lib.Dec.{leb}
use Rattle.lists.specs.Below.{nth}
use Rattle.table_words.specs.Words.{used_offset, table_length, column_from, table_from, with_table}
use Rattle.calls.specs.declared.Call.{Call}
use Rattle.calls.specs.Numbered.{is_write}
use Rattle.replies.specs.declared.Reply.{Reply}
use Rattle.dispatch.specs.OneCall.{used_after}
use Rattle.dispatch.specs.SomeBurns.{some_reply, some_next}
use Rattle.dispatch.proofs.Some.{written-here, some-table}
use Rattle.call_words.specs.CallWords.{lent, with_column}
use Rattle.call_words.proofs.Columns.{used-stored, stored_same}
use Rattle.call_words.proofs.Calling.{counts-there}

-- what is no call leaves the words as they are
pub no-call : (words m : List ℕ) → table_length ≤ length words → (o : Option Call) → o ≡ None → (n : ℕ) → words ≡ with_table words (some_next (lent words m) o n).table
unfolding some_next
no-call words m l o e n = rw e (sym (stored_same words l))

module _ (words m : List ℕ) (o : Option Call) (l : table_length ≤ length words) (r : Reply) (e : r ≡ some_reply (lent words m) o) where
  -- where an entry is counted, its server is there and it fits
  pub counts_some : ForSome o (λ c. is_write c ≡ true → r.refusal ≡ 0 → (r.server < 256) × (nth (column_from words used_offset) r.server < 65536))
  counts_some c f w = counts-there words m (Some c) l r (written-here (lent words m) c r (rw f at e) w) c refl w

  pub counted-some : (n : ℕ) (b : Bool) → b ≡ leb (r.invalidated + 2) n
      → cond b (with_column words used_offset (used_after (column_from words used_offset) o r)) words ≡ with_table words (some_next (lent words m) o n).table
  unfolding table_from
  counted-some n true t = used-stored words _ l ∙ ap (with_table words) (some-table (lent words m) o r e n true t)
  counted-some n false t = sym (stored_same words l) ∙ ap (with_table words) (some-table (lent words m) o r e n false t)
