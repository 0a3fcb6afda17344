-- What recover has to show on a table lent as words, by how it leaves: too few words, refused, and accepted.
-- Assumes nothing.
use Prim.Native.Nat.{ℕ, ◌≤◌, ◌<◌}
use mathlib.Core.Path.{◌≡◌, refl, sym, ap, ◌∙◌, subst}
use mathlib.Core.Logic.{◌≢◌}
use mathlib.Core.Bool.{true}
use mathlib.Core.List.{List, ◌++◌}
use native.Mathlib.Omega.{arith}
use lib.ListN.{length, take, drop}
use borrow.Author.Tests.{lt-leb, le-leb, lt-ltb}
use Rattle.limits.specs.Limits.{max_servers, max_capacity}
use Rattle.lists.specs.Below.{set_below}
use Rattle.medium.specs.Entry.{server_at}
use Rattle.table.specs.declared.Shape.{Shape}
use Rattle.table.specs.Sound.{sound}
use Rattle.table.proofs.Soundness.{sound-facts}
use Rattle.table_words.specs.Words.{used_offset, table_length, column_from, shape_from, table_from, with_table}
use Rattle.table_words.proofs.Lent.{length-column}
use Rattle.replies.specs.Refusal.{first_of}
use Rattle.replies.specs.Reply.{accepted}
use Rattle.replies.proofs.Refusals.{settle-yes, settle-no}
use Rattle.replies.proofs.Answers.{reply-number}
use Rattle.recovery.specs.Recovery.{used_on, with_used, recover_rows, recover_reply, recover_table}
use Rattle.recovery.proofs.Recovering.{recounted}
use Rattle.encoding.specs.Encoding.{too_short}
use Rattle.call_words.proofs.Columns.{used-stored, column-stored, stored_same}
use Rattle.recover_words.specs.RecoverWords.{recover_number, after_recover}

-- its number, and the words
abbrev pub Leaves : List ℕ → List ℕ → ℕ → List ℕ → Type 0
Leaves table m number table' = (number ≡ recover_number table m) × (table' ≡ after_recover table m)

module _ (table m : List ℕ) where
  pub no_room : length table < table_length → Leaves table m too_short table
  unfolding recover_number after_recover with_table
  no_room l = (rw (lt-leb _ _ l), rw (lt-ltb _ _ l))

  module _ (l : table_length ≤ length table) (n : ℕ) (e : n ≡ first_of (recover_rows (table_from table) m)) where
    number_is : n ≡ recover_number table m
    unfolding recover_number recover_reply
    number_is = rw (le-leb _ _ l) (e ∙ sym (reply-number (recover_rows (table_from table) m) accepted refl))

    pub refused : n ≢ 0 → Leaves table m n table
    unfolding after_recover recover_table
    refused z =
        let t = table_from table in
        let same : recover_table t m ≡ t = settle-no (recover_rows t m) _ t (λ y. z (e ∙ y)) in
        (number_is, sym (ap (with_table table) same ∙ stored_same table l))

    pub recovered : (table' : List ℕ) → n ≡ 0 → table' ≡ with_table table (with_used (table_from table) (used_on (table_from table).capacity m)) → Leaves table m 0 table'
    unfolding after_recover recover_table
    recovered table' z d =
        let t = table_from table in
        let new : recover_table t m ≡ with_used t (used_on t.capacity m) = settle-yes (recover_rows t m) _ t (sym e ∙ z) in
        (sym z ∙ number_is, d ∙ ap (with_table table) (sym new))

-- what the numbers of a sound table say of its shape, read from the words
abbrev Fits : List ℕ → List ℕ → Shape → Type 0
Fits words m s =
    ((s.capacity ≤ max_capacity) × (s.count ≤ max_servers) × (server_at s.capacity s.count ≤ length m))
    × (s.count ≤ length (column_from words used_offset))

module _ (words m : List ℕ) (s : Shape) (e : s ≡ shape_from words) (l : table_length ≤ length words) where
  pub shape-fits : sound (table_from words) ≡ true → server_at (table_from words).capacity (table_from words).count ≤ length m → Fits words m s
  unfolding table_from
  shape-fits h w =
      let f = sound-facts (table_from words) h in
      subst (Fits words m) (sym e) ((f.high, f.few, w), omega (arith, f.few, length-column words used_offset (omega arith)))

  -- the words, once the column is stored in its place
  pub recounted-words : (used : List ℕ) → used ≡ set_below (used_on s.capacity m) s.count (column_from words used_offset)
      → take used_offset words ++ (used ++ drop 256 (drop used_offset words)) ≡ with_table words (with_used (table_from words) (used_on (table_from words).capacity m))
  unfolding table_from
  recounted-words used d =
      let t = table_from words in
      let now : used ≡ set_below (used_on t.capacity m) t.count t.used = d ∙ ap (λ (x : Shape). set_below (used_on x.capacity m) x.count t.used) e in
      column-stored words used used used_offset refl
      ∙ used-stored words used l
      ∙ ap (with_table words) (recounted t (used_on t.capacity m) used now)
