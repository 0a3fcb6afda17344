-- What is known where no row of a lookup applies.
-- Assumes nothing.
use Prim.Native.Nat.{ℕ}
use mathlib.Core.Path.{◌≡◌}
use mathlib.Core.Bool.{false}
use mathlib.Core.List.{List}
use Rattle.table.specs.declared.Table.{Table}
use Rattle.replies.specs.Refusal.{first_of}
use Rattle.checks.proofs.Passed.{Ready, Asked, asked-ready, asked-accepted}
use Rattle.lookup.specs.Lookup.{lookup_rows}

module _ (t : Table) (m : List ℕ) (tenant id : ℕ) (z : first_of (lookup_rows t m tenant id) ≡ 0) where
  pub lookup-accepted : Ready t m
  unfolding lookup_rows
  lookup-accepted = asked-ready t m tenant id false z

  pub lookup-asked : Asked id false
  unfolding lookup_rows
  lookup-asked = asked-accepted t m tenant id false z
