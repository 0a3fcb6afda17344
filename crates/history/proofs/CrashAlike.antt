-- Tables that agree below the count and are alike sound leave the same words where a write or a delete crashes, over any medium.
-- Assumes nothing.
use Prim.Native.Nat.{ℕ}
use mathlib.Core.Path.{◌≡◌, refl, ap, ap₂}
use mathlib.Core.List.{List}
use native.Mathlib.Omega.{arith}
use lib.ListN.{take, drop}
use Rattle.medium.specs.Word.{deleted}
use Rattle.medium.specs.Burn.{Burn, burn_all, invalidations}
use Rattle.table.specs.declared.Table.{Table}
use Rattle.table.specs.Sound.{sound}
use Rattle.table.specs.Agree.{AgreeBelow}
use Rattle.replies.proofs.Refusals.{settle-both}
use Rattle.deletion.specs.Deletion.{delete_rows, delete_burns, delete_some_medium}
use Rattle.planning.specs.WriteRows.{write_rows}
use Rattle.planning.proofs.Passed.{write-accepted}
use Rattle.writing.specs.Writing.{write_some_medium}
use Rattle.archive.proofs.BelowCount.{write-rows, write-burns, delete-rows, delete-marks}
use Rattle.history.specs.Beam.{Beam, under_beam}
use Rattle.history.specs.Machine.{State, crash_write, crash_delete}

module _ (t u : Table) (m : List ℕ) (g : AgreeBelow t u) (h : sound t ≡ sound u) (n : ℕ) (beam : Beam) where
  abbrev over : Table → State
  over x = record { table = x; medium = m }

  some_written : (tenant id value : ℕ) → write_some_medium t m tenant id value n ≡ write_some_medium u m tenant id value n
  unfolding write_some_medium
  some_written tenant id value = settle-both _ _ (write-rows t u g h m tenant id value) (◌≡◌ {A = List ℕ}) _ _ m m
      (λ z. ap (λ (bs : List Burn). burn_all m (take n bs)) (write-burns t u g h m id value (omega (arith, (write-accepted t m tenant id value z).there)))) refl

  pub same-crash-write : (tenant id value : ℕ) → (crash_write (over t) tenant id value n beam).medium ≡ (crash_write (over u) tenant id value n beam).medium
  unfolding crash_write
  same-crash-write tenant id value = settle-both (write_rows t m tenant id value) (write_rows u m tenant id value) (write-rows t u g h m tenant id value) (◌≡◌ {A = List ℕ}) _ _ m m
      (λ z. ap₂ (λ (bs : List Burn) (w : List ℕ). under_beam beam (drop n bs) w) (write-burns t u g h m id value (omega (arith, (write-accepted t m tenant id value z).there))) (some_written tenant id value)) refl

  same-burns : (id : ℕ) → delete_burns t m id ≡ delete_burns u m id
  same-burns id = ap (invalidations deleted) (delete-marks t u g h m id)

  some-deleted : (tenant id : ℕ) → delete_some_medium t m tenant id n ≡ delete_some_medium u m tenant id n
  unfolding delete_some_medium
  some-deleted tenant id = settle-both _ _ (delete-rows t u g h m tenant id) (◌≡◌ {A = List ℕ}) _ _ m m (λ z. ap (λ (bs : List Burn). burn_all m (take n bs)) (same-burns id)) refl

  pub same-crash-delete : (tenant id : ℕ) → (crash_delete (over t) tenant id n beam).medium ≡ (crash_delete (over u) tenant id n beam).medium
  unfolding crash_delete
  same-crash-delete tenant id = settle-both (delete_rows t m tenant id) (delete_rows u m tenant id) (delete-rows t u g h m tenant id) (◌≡◌ {A = List ℕ}) _ _ m m
      (λ z. ap₂ (λ (bs : List Burn) (w : List ℕ). under_beam beam (drop n bs) w) (same-burns id) (some-deleted tenant id)) refl
