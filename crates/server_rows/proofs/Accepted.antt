-- What the tests of an add_server and of a reweight take for granted, and what is known where they are accepted.
-- Assumes nothing.
use Prim.Native.Nat.{ℕ, ◌+◌, ◌*◌, ◌≤◌, ◌<◌}
use mathlib.Core.Path.{◌≡◌}
use mathlib.Core.Bool.{true, not}
use mathlib.Core.List.{List}
use native.Mathlib.Numerals.{add-one}
use native.Mathlib.Omega.{arith}
use lib.Dec.{leb, ltb, eqb}
use borrow.Author.Tests.{ltb-false, leb-false, eqb-false, not-false}
use Rattle.medium.specs.Entry.{server_at}
use Rattle.medium.proofs.Places.{server-next}
use Rattle.table.specs.declared.Table.{Table}
use Rattle.table.specs.Sound.{sound}
use Rattle.table.proofs.Soundness.{sound-facts}
use Rattle.replies.specs.Refusal.{first_of}
use Rattle.replies.proofs.Refusals.{passed}
use Rattle.server_rows.specs.ServerRows.{add_server_rows, reweight_rows}

-- where the words of the new server end
pub server_more : (capacity k : ℕ) → server_at capacity (k + 1) ≡ server_at capacity k + 3 * capacity
server_more capacity k = rw add-one (server-next capacity k)

pub record ServerAccepted (t : Table) (weight : ℕ) : Type 0 where
  pub is_sound : sound t ≡ true
  pub light : weight ≤ t.capacity
  pub few : t.count < 256

pub add_server-accepted : (t : Table) (m : List ℕ) (weight : ℕ) → first_of (add_server_rows t m weight) ≡ 0 → ServerAccepted t weight
unfolding add_server_rows
add_server-accepted t m weight z =
    let a = passed 0 (not (sound t)) _ z in
    let b = passed 1 (ltb t.capacity weight) _ a.1 in
    let d = passed 3 (eqb t.count 256) _ b.1 in
    let s = sound-facts t (not-false _ a.0) in
    record {
      is_sound = not-false _ a.0;
      light = ltb-false _ _ b.0;
      few = omega (arith, eqb-false t.count 256 d.0);
    }

pub record WeightAccepted (t : Table) (server weight : ℕ) : Type 0 where
  pub is_sound : sound t ≡ true
  pub light : weight ≤ t.capacity
  pub there : server < t.count

pub reweight-accepted : (t : Table) (server weight : ℕ) → first_of (reweight_rows t server weight) ≡ 0 → WeightAccepted t server weight
unfolding reweight_rows
reweight-accepted t server weight z =
    let a = passed 0 (not (sound t)) _ z in
    let b = passed 1 (ltb t.capacity weight) _ a.1 in
    let d = passed 2 (leb t.count server) _ b.1 in
    record { is_sound = not-false _ a.0; light = ltb-false _ _ b.0; there = leb-false _ _ d.0 }
