-- A write with no burn left over is the plain one, and no write has more burns than `all_burns`.
-- Assumes nothing.
use Prim.Native.Nat.{ℕ, ◌≤◌}
use mathlib.Core.Path.{◌≡◌, refl, ap}
use mathlib.Core.Bool.{Bool, cond}
use mathlib.Core.List.{List}
use native.Mathlib.Omega.{arith}
use lib.ListN.{length}
use lib.Seq.{take_all}
use borrow.Author.Tests.{le-leb}
use Rattle.limits.specs.Limits.{max_sum, all_burns}
use Rattle.medium.specs.Burn.{burn_all}
use Rattle.table.specs.declared.Table.{Table}
use Rattle.upkeep.specs.Upkeep.{with_entry}
use Rattle.replies.specs.Refusal.{first_of}
use Rattle.replies.proofs.Refusals.{settle-both}
use Rattle.invalidation.proofs.Invalidating.{marks-most}
use Rattle.planning.specs.WriteRows.{target, write_rows}
use Rattle.planning.proofs.Passed.{write-accepted}
use Rattle.writing.specs.Writing.{write_marks, write_burns, write_table, write_medium, write_some_table, write_some_medium}
use Rattle.writing.proofs.NewEntry.{burns-length}

-- the table and the medium are those of the plain write
pub record Whole (t : Table) (m : List ℕ) (tenant id value n : ℕ) : Type 0 where
  pub table : write_some_table t m tenant id value n ≡ write_table t m tenant id value
  pub medium : write_some_medium t m tenant id value n ≡ write_medium t m tenant id value

module _ (t : Table) (m : List ℕ) (tenant id value : ℕ) where
  write-enough : (n : ℕ) → (first_of (write_rows t m tenant id value) ≡ 0 → length (write_burns t m id value) ≤ n) → Whole t m tenant id value n
  unfolding write_some_table write_table write_some_medium write_medium
  write-enough n h =
      let rows = write_rows t m tenant id value in
      record {
        table = settle-both rows rows refl (◌≡◌ {A = Table}) _ _ t t (λ z. ap (λ (b : Bool). cond b (with_entry t (target t id)) t) (le-leb _ _ (h z))) refl;
        medium = settle-both rows rows refl (◌≡◌ {A = List ℕ}) _ _ m m (λ z. ap (burn_all m) (take_all n (write_burns t m id value) (h z))) refl;
      }

  -- no burn is left over
  pub write-whole : (n : ℕ) → length (write_burns t m id value) ≤ n → Whole t m tenant id value n
  write-whole n h = write-enough n (λ z. h)

  -- every write that is accepted has as few burns
  write-few : first_of (write_rows t m tenant id value) ≡ 0 → length (write_burns t m id value) ≤ all_burns
  unfolding write_marks
  write-few z =
      let few : length (write_marks t m id) ≤ max_sum = marks-most t m id _ (write-accepted t m tenant id value z).inside in
      omega (arith, burns-length t m id value)

  pub write-plain : Whole t m tenant id value all_burns
  write-plain = write-enough all_burns write-few

  pub write_plain_table : write_some_table t m tenant id value all_burns ≡ write_table t m tenant id value
  write_plain_table = write-plain.table

  pub write_plain_medium : write_some_medium t m tenant id value all_burns ≡ write_medium t m tenant id value
  write_plain_medium = write-plain.medium
