-- A delete with no burn left over is the plain one, and no delete has more burns than `all_burns`.
-- Assumes nothing.
use Prim.Native.Nat.{ℕ, ◌≤◌}
use mathlib.Core.Path.{◌≡◌, refl, ap}
use mathlib.Core.List.{List}
use native.Mathlib.Omega.{arith}
use lib.ListN.{length}
use lib.Seq.{take_all}
use Rattle.limits.specs.Limits.{all_burns}
use Rattle.medium.specs.Word.{deleted}
use Rattle.medium.specs.Burn.{burn_all}
use Rattle.medium.proofs.Burns.{length-invalidations}
use Rattle.table.specs.declared.Table.{Table}
use Rattle.replies.specs.Refusal.{first_of}
use Rattle.replies.proofs.Refusals.{settle-both}
use Rattle.checks.proofs.Passed.{asked-ready}
use Rattle.invalidation.proofs.Invalidating.{marks-most}
use Rattle.deletion.specs.Deletion.{delete_rows, delete_marks, delete_burns, delete_medium, delete_some_medium}
use Rattle.deletion.proofs.Done.{delete-ready}

module _ (t : Table) (m : List ℕ) (tenant id : ℕ) where
  delete-enough : (n : ℕ) → (first_of (delete_rows t m tenant id) ≡ 0 → length (delete_burns t m id) ≤ n) → delete_some_medium t m tenant id n ≡ delete_medium t m tenant id
  unfolding delete_some_medium delete_medium
  delete-enough n h =
      settle-both (delete_rows t m tenant id) (delete_rows t m tenant id) refl (◌≡◌ {A = List ℕ}) _ _ m m (λ z. ap (burn_all m) (take_all n (delete_burns t m id) (h z))) refl

  -- no burn is left over
  pub delete-whole : (n : ℕ) → length (delete_burns t m id) ≤ n → delete_some_medium t m tenant id n ≡ delete_medium t m tenant id
  delete-whole n h = delete-enough n (λ z. h)

  -- every delete that is accepted has as few burns
  delete-few : first_of (delete_rows t m tenant id) ≡ 0 → length (delete_burns t m id) ≤ all_burns
  unfolding delete_marks
  delete-few z =
      let r = asked-ready t m tenant id _ (delete-ready t m tenant id z) in
      omega (arith, length-invalidations deleted (delete_marks t m id), marks-most t m id 0 r.inside)

  pub delete_plain : delete_some_medium t m tenant id all_burns ≡ delete_medium t m tenant id
  delete_plain = delete-enough all_burns delete-few
