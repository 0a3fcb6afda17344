-- A table tested: what is tested before the servers, and a server by the tests that the code makes.
-- Assumes nothing.
use Prim.Native.Nat.{ℕ, ◌+◌, ◌*◌, ◌≤◌, ◌<◌}
use mathlib.Core.Path.{◌≡◌, refl, sym, ap, ◌∙◌, subst}
use mathlib.Core.Bool.{true, false}
use native.Mathlib.Omega.{arith}
use lib.Dec.{ltb}
use borrow.Author.Tests.{leb-true, le-leb, ltb-false, le-ltb}
use Rattle.lists.specs.Below.{all_below, total}
use Rattle.lists.proofs.Tests.{by_bool, true-not-false, and_l, and_r, and_i}
use Rattle.counters.specs.Counter.{in_bounds}
use Rattle.placement.specs.Fraction.{at_least}
use Rattle.placement.specs.Rule.{share_of, write_p}
use Rattle.placement.proofs.Shares.{at-least-share}
use Rattle.table.specs.declared.Table.{Table}
use Rattle.table.specs.Parts.{weight_of, used_of, read_p}
use Rattle.table.specs.Sound.{in_range, read_sound, server_sound, sound, first_sound, head_sound}
use Rattle.table.proofs.Soundness.{sound-facts, sound-ranged, range-high, tested-sound}

-- ReadP of server 0, if it is there, is at least 1
first-read : (t : Table) → first_sound t ≡ true → 0 < t.count → (read_p t 0).den ≤ (read_p t 0).num
unfolding first_sound
first-read t e l = leb-true _ _ (rw (le-ltb t.count 1 (omega arith)) at e)

record Head (t : Table) : Type 0 where
  pub ranged : in_range t.capacity t.salt ≡ true
  pub few : t.count ≤ 256
  pub bounds : in_bounds t.counters ≡ true
  pub first : first_sound t ≡ true

head-facts : (t : Table) → head_sound t ≡ true → Head t
unfolding head_sound
head-facts t e = record {
  ranged = search and_l;
  few = leb-true t.count 256 (search (and_l, and_r));
  bounds = search (and_l, and_r);
  first = search (and_l, and_r);
}

pub head_bounds : (t : Table) → head_sound t ≡ true → (t.capacity ≤ 65536) × (t.count ≤ 256)
head_bounds t e = let h = head-facts t e in (range-high t.capacity t.salt h.ranged, h.few)

-- a sound table passes what is tested before the servers
sound-first : (t : Table) → sound t ≡ true → first_sound t ≡ true
unfolding first_sound at_least write_p share_of
sound-first t s = by_bool (ltb t.count 1)
    (λ l. rw l refl)
    (λ l.
    let r = leb-true (1 * (read_p t 0).den) ((read_p t 0).num * 1) ((sound-facts t s).server 0 (omega (arith, ltb-false _ _ l))).reads in
    rw l (le-leb (read_p t 0).den (read_p t 0).num (omega (arith, r))))

pub sound-head : (t : Table) → sound t ≡ true → head_sound t ≡ true
unfolding head_sound
sound-head t s = let f = sound-facts t s in and_i _ _ (sound-ranged t s) (and_i _ _ (le-leb _ _ f.few) (and_i _ _ f.bounds (sound-first t s)))

-- before server 0 there is no weight
none_before : (weight : ℕ → ℕ) (i sum : ℕ) → i ≡ 0 → sum ≡ total weight i → sum ≡ 0
unfolding total
none_before weight i sum z e = e ∙ ap (total weight) z

-- a server that is not too heavy and has not used too many entries is as sound as its ReadP, WriteP being its weight over the sum so far
pub server_tested : (t : Table) (k sum : ℕ) → head_sound t ≡ true → k < t.count → weight_of t k ≤ t.capacity → used_of t k ≤ t.capacity → sum ≡ total (weight_of t) k
    → server_sound t k ≡ read_sound (read_p t k) (record { num = weight_of t k; den = sum + weight_of t k })
unfolding server_sound write_p total read_sound
server_tested t k sum head there light fits s =
    let share : at_least (read_p t k) (record { num = weight_of t k; den = sum + weight_of t k }) ≡ at_least (read_p t k) (share_of k (weight_of t k) (sum + weight_of t k)) =
    at-least-share (read_p t k) k (weight_of t k) (sum + weight_of t k) (λ z. (
      omega (arith, none_before (weight_of t) k sum z s),
      subst (λ (i : ℕ). (read_p t i).den ≤ (read_p t i).num) (sym z) (first-read t (head-facts t head).first (omega arith)),
    )) in
    rw (le-leb _ _ light, le-leb _ _ fits, ← s, share) refl

-- a table that a test refuses
unsound : (t : Table) → (sound t ≡ true → ⊥) → false ≡ sound t
unsound t fails = by_bool (sound t) (λ s. absurd (fails s)) (λ s. sym s)

pub head_refused : (t : Table) → head_sound t ≡ false → false ≡ sound t
head_refused t e = unsound t (λ s. true-not-false (sound-head t s) e)

pub heavy_refused : (t : Table) (k : ℕ) → k < t.count → t.capacity < weight_of t k → false ≡ sound t
heavy_refused t k l m = unsound t (λ s. omega (arith, ((sound-facts t s).server k l).light))

pub overfull_refused : (t : Table) (k : ℕ) → k < t.count → t.capacity < used_of t k → false ≡ sound t
overfull_refused t k l m = unsound t (λ s. omega (arith, ((sound-facts t s).server k l).fits))

pub all_tested : (t : Table) → head_sound t ≡ true → all_below (server_sound t) t.count ≡ true → true ≡ sound t
all_tested t head e = let h = head-facts t head in sym (tested-sound t h.ranged h.few h.bounds e)
