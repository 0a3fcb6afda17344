-- A write by its reply: what is known of one that was accepted, and of one that was not.
-- Assumes nothing.
use Prim.Native.Nat.{ℕ, ◌+◌, ◌<◌}
use mathlib.Core.Path.{◌≡◌, refl, sym, ap, ◌∙◌}
use mathlib.Core.Logic.{◌≢◌}
use mathlib.Core.Bool.{Bool, true, cond}
use mathlib.Core.List.{List}
use native.Mathlib.Omega.{arith}
use lib.ListN.{length}
use lib.Dec.{leb}
use Rattle.table.specs.declared.Table.{Table}
use Rattle.table.specs.Parts.{used_of}
use Rattle.table.specs.Sound.{sound}
use Rattle.upkeep.specs.Upkeep.{with_entry}
use Rattle.replies.specs.Refusal.{first_of}
use Rattle.replies.specs.declared.Reply.{Reply}
use Rattle.replies.specs.Reply.{on_server}
use Rattle.replies.proofs.Refusals.{settle-yes, settle-no}
use Rattle.replies.proofs.Answers.{reply-done, reply-number}
use Rattle.planning.specs.WriteRows.{target, write_rows}
use Rattle.planning.proofs.Passed.{write-accepted}
use Rattle.writing.specs.Writing.{write_marks, write_burns, write_reply, write_table, write_some_table}
use Rattle.writing.proofs.NewEntry.{burns-length}

-- a write by its reply: one of refusal 0 is accepted and names the write server, whose used grows by one
pub record WrittenTo (t : Table) (m : List ℕ) (tenant id value server : ℕ) : Type 0 where
  pub is_sound : sound t ≡ true
  pub there : server < t.count
  pub free : used_of t server < t.capacity
  pub table : with_entry t server ≡ write_table t m tenant id value

module _ (t : Table) (m : List ℕ) (tenant id value : ℕ) (r : Reply) (e : r ≡ write_reply t m tenant id value) where
  write-number : r.refusal ≡ first_of (write_rows t m tenant id value)
  unfolding write_reply
  write-number = ap (λ (r : Reply). r.refusal) e ∙ reply-number (write_rows t m tenant id value) _ refl

  accepted : r.refusal ≡ 0 → first_of (write_rows t m tenant id value) ≡ 0
  accepted z = sym write-number ∙ z

  done : r.refusal ≡ 0 → r ≡ on_server (target t id) (length (write_marks t m id))
  unfolding write_reply
  done z = e ∙ reply-done (write_rows t m tenant id value) (accepted z) _

  pub written-to : r.refusal ≡ 0 → WrittenTo t m tenant id value r.server
  unfolding write_table
  written-to z =
      let a = write-accepted t m tenant id value (accepted z) in
      let k : r.server ≡ target t id = ap (λ (r : Reply). r.server) (done z) in
      record {
        is_sound = a.is_sound;
        there = omega (arith, a.there);
        free = omega (arith, a.free, ap (used_of t) k);
        table = ap (with_entry t) k ∙ sym (settle-yes (write_rows t m tenant id value) _ t (accepted z));
      }

  -- with a number of burns, by the test whether none is left over
  pub written-some : r.refusal ≡ 0 → (burns : ℕ) (b : Bool) → b ≡ leb (r.invalidated + 2) burns → cond b (with_entry t r.server) t ≡ write_some_table t m tenant id value burns
  unfolding write_some_table
  written-some z burns b w =
      let k : r.server ≡ target t id = ap (λ (r : Reply). r.server) (done z) in
      let n : r.invalidated ≡ length (write_marks t m id) = ap (λ (r : Reply). r.invalidated) (done z) in
      let l : r.invalidated + 2 ≡ length (write_burns t m id value) = omega (arith, n, burns-length t m id value) in
      rw (w, l, k) (sym (settle-yes (write_rows t m tenant id value) _ t (accepted z)))

  -- one of another number is refused
  pub table_kept : r.refusal ≢ 0 → t ≡ write_table t m tenant id value
  unfolding write_table
  table_kept f = sym (settle-no (write_rows t m tenant id value) _ t (λ y. f (write-number ∙ y)))

  pub some-kept : r.refusal ≢ 0 → (burns : ℕ) → t ≡ write_some_table t m tenant id value burns
  unfolding write_some_table
  some-kept f burns = sym (settle-no (write_rows t m tenant id value) _ t (λ y. f (write-number ∙ y)))
