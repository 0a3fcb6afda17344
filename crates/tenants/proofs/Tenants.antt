-- Whose an id is: the values of specs/Known, and what is known where a call's tenant and id pass their tests.
-- Assumes nothing.
use Prim.Native.Nat.{ℕ, ◌/◌, ◌<◌}
use mathlib.Core.Path.{◌≡◌, refl}
use mathlib.Core.Bool.{false}
use native.Mathlib.Omega.{arith}
use lib.Dec.{leb}
use borrow.Author.Tests.{leb-false, eqb-true, eq-eqb, lt-leb, not-false}
use Rattle.limits.specs.Limits.{content_range, tenants, tenant_range}
use Rattle.lists.proofs.Tests.{or-false}
use Rattle.tenants.specs.Tenant.{tenant_of, out_of_range, of_another}
use Rattle.tenants.specs.Known.{KnownTenants, Tenants}

pub known_tenants : KnownTenants
unfolding tenant_of out_of_range of_another
known_tenants = record {
  first = refl;
  last_of_first = refl;
  first_of_second = refl;
  example = refl;
  last = refl;
  beyond = refl;
  in_range = refl;
  tenant_above = refl;
  id_above = refl;
  own = refl;
  neighbours = refl;
}

pub the_tenants : Tenants
unfolding tenant_of
the_tenants = record {
  all = refl;
  ids = λ tenant id. ((λ e. (omega arith, omega arith)), (λ h. omega (arith, h)));
}

-- an id is its own tenant's
pub own-id : (id : ℕ) → of_another (tenant_of id) id ≡ false
unfolding of_another
own-id id = rw (eq-eqb (tenant_of id) (tenant_of id) refl)

-- and its tenant is in range where it is
pub own-in-range : (id : ℕ) → id < content_range → out_of_range (tenant_of id) id ≡ false
unfolding out_of_range tenant_of
own-in-range id l = rw (lt-leb tenants (id / tenant_range) (omega arith), lt-leb content_range id l)

module _ (tenant id : ℕ) where
  pub id-in-range : out_of_range tenant id ≡ false → id < content_range
  unfolding out_of_range
  id-in-range e = leb-false content_range id (or-false (leb tenants tenant) (leb content_range id) e).1

  pub tenant-is : of_another tenant id ≡ false → tenant_of id ≡ tenant
  unfolding of_another
  tenant-is e = eqb-true (tenant_of id) tenant (not-false _ e)
