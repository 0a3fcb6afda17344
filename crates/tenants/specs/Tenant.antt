-- Tenants, the paper's clubs (document 02, item 2). Machine and ledger share these definitions; Known.antt pins them by values.
use Rattle.std.specs.Prelude.{ℕ, ◌/◌, Bool, not, ◌||◌, leb, eqb}
use Rattle.limits.specs.Limits.{content_range, tenants, tenant_range}

-- the tenant of an id: the top three of its 30 bits
unfoldable pub tenant_of : ℕ → ℕ
tenant_of id = id / tenant_range

-- the caller's tenant or the id is out of range
unfoldable pub out_of_range : ℕ → ℕ → Bool
out_of_range tenant id = leb tenants tenant || leb content_range id

-- the id is another tenant's than the caller's
unfoldable pub of_another : ℕ → ℕ → Bool
of_another tenant id = not (eqb (tenant_of id) tenant)
