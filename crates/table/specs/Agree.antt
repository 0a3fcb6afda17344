-- Tables that agree below the count: what stands at the count and above may differ, and the counters may.
use Rattle.std.specs.Prelude.{ℕ, ◌<◌, ◌≡◌}
use Rattle.table.specs.declared.Table.{Table}
use Rattle.table.specs.Parts.{weight_of, used_of, read_p}

pub record AgreeBelow (t u : Table) : Type 0 where
  pub capacity : t.capacity ≡ u.capacity
  pub salt : t.salt ≡ u.salt
  pub count : t.count ≡ u.count
  pub weight : (k : ℕ) → k < t.count → weight_of t k ≡ weight_of u k
  pub used : (k : ℕ) → k < t.count → used_of t k ≡ used_of u k
  pub read : (k : ℕ) → k < t.count → read_p t k ≡ read_p u k
