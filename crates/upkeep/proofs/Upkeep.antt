-- What the updates of a table leave at each server, and that the arrays keep their lengths.
-- Assumes nothing.
use Prim.Native.Nat.{ℕ, suc, ◌≤◌, ◌<◌}
use mathlib.Core.Path.{◌≡◌, refl, ◌∙◌}
use mathlib.Core.Logic.{◌≢◌}
use mathlib.Core.Bool.{true}
use native.Mathlib.Omega.{arith}
use lib.ListN.{length-set}
use lib.Seq.{get_or-set_same, get_or-set_other}
use Rattle.lists.proofs.Below.{length-set_below, set_below-at}
use Rattle.counters.proofs.Counters.{counted-long}
use Rattle.placement.specs.Fraction.{at_least, raise}
use Rattle.placement.specs.Rule.{write_p}
use Rattle.placement.proofs.Fractions.{raise-is, fraction-eq}
use Rattle.table.specs.declared.Table.{Table}
use Rattle.table.specs.Parts.{weight_of, used_of, read_p}
use Rattle.table.specs.Sound.{sound}
use Rattle.table.proofs.Soundness.{Arrays, sound-facts}
use Rattle.upkeep.specs.Upkeep.{with_server, with_weight, one_more, with_entry, with_opened}

-- the entries used of a server, and where it stands
pub used_bounds : (t : Table) (k : ℕ) → sound t ≡ true → k < t.count → (used_of t k ≤ 65536) × (t.count ≤ 256)
used_bounds t k e l =
    let s = sound-facts t e in
    let o = s.server k l in (omega arith, s.few)

pub with_server-arrays : (t : Table) (weight : ℕ) → Arrays t → Arrays (with_server t weight)
unfolding with_server
with_server-arrays t weight a = record {
  weights = simp length-set a.weights;
  used = simp length-set a.used;
  numerators = simp length-set a.numerators;
  denominators = simp length-set a.denominators;
  counters = a.counters;
}

pub with_weight-arrays : (t : Table) (server weight : ℕ) → Arrays t → Arrays (with_weight t server weight)
unfolding with_weight
with_weight-arrays t server weight a = record {
  weights = simp length-set a.weights;
  used = a.used;
  numerators = simp length-set_below a.numerators;
  denominators = simp length-set_below a.denominators;
  counters = a.counters;
}

pub with_entry-arrays : (t : Table) (server : ℕ) → Arrays t → Arrays (with_entry t server)
unfolding with_entry one_more
with_entry-arrays t server a = record {
  weights = a.weights;
  used = simp length-set a.used;
  numerators = a.numerators;
  denominators = a.denominators;
  counters = a.counters;
}

pub with_opened-arrays : (t : Table) (tenant opened : ℕ) → Arrays t → Arrays (with_opened t tenant opened)
unfolding with_opened
with_opened-arrays t tenant opened a = record {
  weights = a.weights;
  used = a.used;
  numerators = a.numerators;
  denominators = a.denominators;
  counters = counted-long t.counters tenant opened ∙ a.counters;
}

-- u is t with one server more
pub record ServerAdded (t : Table) (weight : ℕ) (u : Table) : Type 0 where
  pub capacity : u.capacity ≡ t.capacity
  pub salt : u.salt ≡ t.salt
  pub counters : u.counters ≡ t.counters
  pub count : u.count ≡ suc t.count
  pub weight_new : weight_of u t.count ≡ weight
  pub weight_old : (k : ℕ) → k < t.count → weight_of u k ≡ weight_of t k
  pub used_new : used_of u t.count ≡ 0
  pub used_old : (k : ℕ) → k < t.count → used_of u k ≡ used_of t k
  pub read_new : read_p u t.count ≡ write_p (weight_of u) t.count
  pub read_old : (k : ℕ) → k < t.count → read_p u k ≡ read_p t k

-- u is t with another weight for a server
pub record WeightChanged (t : Table) (server weight : ℕ) (u : Table) : Type 0 where
  pub capacity : u.capacity ≡ t.capacity
  pub salt : u.salt ≡ t.salt
  pub counters : u.counters ≡ t.counters
  pub count : u.count ≡ t.count
  pub weight_new : weight_of u server ≡ weight
  pub weight_old : (k : ℕ) → k ≢ server → weight_of u k ≡ weight_of t k
  pub used : (k : ℕ) → used_of u k ≡ used_of t k
  pub raised : (k : ℕ) → k < t.count → read_p u k ≡ raise (read_p t k) (write_p (weight_of u) k)

-- u is t with one entry more used on a server
pub record EntryAdded (t : Table) (server : ℕ) (u : Table) : Type 0 where
  pub capacity : u.capacity ≡ t.capacity
  pub salt : u.salt ≡ t.salt
  pub counters : u.counters ≡ t.counters
  pub count : u.count ≡ t.count
  pub weight : (k : ℕ) → weight_of u k ≡ weight_of t k
  pub used_new : used_of u server ≡ suc (used_of t server)
  pub used_old : (k : ℕ) → k ≢ server → used_of u k ≡ used_of t k
  pub read : (k : ℕ) → read_p u k ≡ read_p t k

pub with_server-is : (t : Table) (weight : ℕ) → Arrays t → t.count < 256 → ServerAdded t weight (with_server t weight)
unfolding with_server
with_server-is t weight a l = record {
  capacity = refl;
  salt = refl;
  counters = refl;
  count = refl;
  weight_new = get_or-set_same t.weights t.count _ 0 (omega (arith, a.weights));
  weight_old = λ k h. get_or-set_other t.weights t.count k _ 0 (λ e. omega arith);
  used_new = get_or-set_same t.used t.count _ 0 (omega (arith, a.used));
  used_old = λ k h. get_or-set_other t.used t.count k _ 0 (λ e. omega arith);
  read_new = fraction-eq _ _
      (get_or-set_same t.numerators t.count _ 0 (omega (arith, a.numerators)))
      (get_or-set_same t.denominators t.count _ 0 (omega (arith, a.denominators)));
  read_old = λ k h. fraction-eq _ _
      (get_or-set_other t.numerators t.count k _ 0 (λ e. omega arith))
      (get_or-set_other t.denominators t.count k _ 0 (λ e. omega arith));
}

pub with_weight-is : (t : Table) (server weight : ℕ) → Arrays t → t.count ≤ 256 → server < t.count → WeightChanged t server weight (with_weight t server weight)
unfolding with_weight
with_weight-is t server weight a l s = record {
  capacity = refl;
  salt = refl;
  counters = refl;
  count = refl;
  weight_new = get_or-set_same t.weights server _ 0 (omega (arith, a.weights));
  weight_old = λ k n. get_or-set_other t.weights server k _ 0 n;
  used = λ k. refl;
  raised = λ k h. fraction-eq _ _
      (set_below-at _ t.count t.numerators (omega (arith, a.numerators)) k h)
      (set_below-at _ t.count t.denominators (omega (arith, a.denominators)) k h);
}

pub with_entry-is : (t : Table) (server : ℕ) → Arrays t → t.count ≤ 256 → server < t.count → EntryAdded t server (with_entry t server)
unfolding with_entry one_more
with_entry-is t server a l s = record {
  capacity = refl;
  salt = refl;
  counters = refl;
  count = refl;
  weight = λ k. refl;
  used_new = get_or-set_same t.used server _ 0 (omega (arith, a.used));
  used_old = λ k n. get_or-set_other t.used server k _ 0 n;
  read = λ k. refl;
}

-- no ReadP falls
pub reads-never-fall : (t : Table) (server weight : ℕ) → Arrays t → t.count ≤ 256 → server < t.count → (k : ℕ) → k < t.count
    → at_least (read_p (with_weight t server weight) k) (read_p t k) ≡ true
reads-never-fall t server weight a l s k h = rw ((with_weight-is t server weight a l s).raised k h) (raise-is (read_p t k) _).least.0
