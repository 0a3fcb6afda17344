-- The write server, and what is known where no row of a write applies.
-- Assumes nothing.
use Prim.Native.Nat.{ℕ, ◌<◌}
use mathlib.Core.Path.{◌≡◌}
use mathlib.Core.Bool.{true, not}
use mathlib.Core.List.{List}
use native.Mathlib.Omega.{arith}
use lib.Dec.{leb, eqb}
use borrow.Author.Tests.{leb-false, eqb-false, not-false}
use Rattle.limits.specs.Limits.{content_range}
use Rattle.draws.specs.Draw.{modulus, draw_of}
use Rattle.placement.specs.Rule.{Picked}
use Rattle.placement.proofs.Rules.{write_server-is}
use Rattle.medium.specs.Entry.{entry_at, blank_run, AllInside}
use Rattle.table.specs.declared.Table.{Table}
use Rattle.table.specs.Parts.{weight_of, used_of}
use Rattle.table.specs.Sound.{sound}
use Rattle.replies.specs.Refusal.{first_of}
use Rattle.replies.proofs.Refusals.{passed, passed-both}
use Rattle.checks.proofs.Passed.{Asked, asked-numbered, asked-tests, asked-ready, asked-accepted}
use Rattle.planning.specs.WriteRows.{target, entry_rows, write_rows}

-- the write server is the published pick
pub target_is : (t : Table) (id : ℕ) → 0 < t.count → Picked modulus (draw_of t.salt id) (weight_of t) t.count (target t id)
unfolding target
target_is t id l = write_server-is (weight_of t) t.count t.salt id l

-- its numbers are in range, and it goes to a server that is there and has an entry left, which is blank
pub record WriteAccepted (t : Table) (m : List ℕ) (tenant id value : ℕ) : Type 0 where
  pub is_sound : sound t ≡ true
  pub asked : Asked id (leb content_range value)
  pub small : value < content_range
  pub there : target t id < t.count
  pub free : used_of t (target t id) < t.capacity
  pub is_blank : blank_run m (entry_at t.capacity (target t id) (used_of t (target t id))) 3 ≡ true
  pub inside : AllInside t.capacity t.count (used_of t) m

pub write-accepted : (t : Table) (m : List ℕ) (tenant id value : ℕ) → first_of (write_rows t m tenant id value) ≡ 0 → WriteAccepted t m tenant id value
unfolding write_rows entry_rows
write-accepted t m tenant id value z =
    let outside = leb content_range value in
    let p = passed-both _ (entry_rows t m id) (asked-numbered t m tenant id outside) z in
    let a = asked-accepted t m tenant id outside p.0 in
    let r = asked-ready t m tenant id outside p.0 in
    let f = passed 5 (eqb (used_of t (target t id)) t.capacity) _ p.1 in
    let g = passed 6 (not (blank_run m (entry_at t.capacity (target t id) (used_of t (target t id))) 3)) _ f.1 in
    let l = (target_is t id (omega (arith, eqb-false t.count 0 (asked-tests t m tenant id outside p.0).none))).below in
    record {
      is_sound = r.is_sound;
      asked = a;
      small = leb-false _ _ a.within;
      there = l;
      free = omega (arith, r.inside.fits (target t id) l, eqb-false (used_of t (target t id)) t.capacity f.0);
      is_blank = not-false _ g.0;
      inside = r.inside;
    }
