-- The numbers of the rows rise in start, add_server, reweight and what refuses a batch as a whole, so that there the first row that
-- applies has the lowest number that applies. It is not so in write, delete and lookup, where 11 comes right after 2.
-- Assumes nothing.
use Prim.Native.Nat.{ℕ}
use mathlib.Core.Path.{◌≡◌, refl}
use mathlib.Core.Bool.{true}
use mathlib.Core.List.{List}
use Rattle.table.specs.declared.Table.{Table}
use Rattle.replies.specs.Refusal.{rising}
use Rattle.server_rows.specs.ServerRows.{start_rows, add_server_rows, reweight_rows}
use Rattle.batch.specs.Batch.{batch_rows}

pub start-rises : (capacity salt : ℕ) → rising 0 (start_rows capacity salt) ≡ true
unfolding rising start_rows
start-rises capacity salt = refl

module _ (t : Table) where
  pub add_server-rises : (m : List ℕ) (weight : ℕ) → rising 0 (add_server_rows t m weight) ≡ true
  unfolding rising add_server_rows
  add_server-rises m weight = refl

  pub reweight-rises : (server weight : ℕ) → rising 0 (reweight_rows t server weight) ≡ true
  unfolding rising reweight_rows
  reweight-rises server weight = refl

  pub batch-rises : (ids : List ℕ) → rising 0 (batch_rows t ids) ≡ true
  unfolding rising batch_rows
  batch-rises ids = refl
