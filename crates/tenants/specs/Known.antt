-- Values at the edges of the tenants' ids, and what a tenant's ids are.
use Rattle.std.specs.Prelude.{ℕ, suc, ◌*◌, ◌≤◌, ◌<◌, ◌≡◌, true, false, ◌↔◌}
use Rattle.limits.specs.Limits.{content_range, tenants, tenant_range}
use Rattle.tenants.specs.Tenant.{tenant_of, out_of_range, of_another}

pub record KnownTenants : Type 0 where
  pub first : tenant_of 0 ≡ 0
  pub last_of_first : tenant_of 134217727 ≡ 0
  pub first_of_second : tenant_of 134217728 ≡ 1
  pub example : tenant_of 626627286 ≡ 4
  pub last : tenant_of 1073741823 ≡ 7
  pub beyond : tenant_of 1073741824 ≡ 8
  pub in_range : out_of_range 7 1073741823 ≡ false
  pub tenant_above : out_of_range 8 0 ≡ true
  pub id_above : out_of_range 0 1073741824 ≡ true
  pub own : of_another 4 626627286 ≡ false
  pub neighbours : of_another 5 626627286 ≡ true

-- each tenant has 2^27 ids of the 2^30, one after another
pub record Tenants : Type 0 where
  pub all : tenants * tenant_range ≡ content_range
  pub ids : (tenant id : ℕ) → (tenant_of id ≡ tenant) ↔ ((tenant * tenant_range ≤ id) × (id < suc tenant * tenant_range))
