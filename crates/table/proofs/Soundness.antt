-- What a sound table has, as facts, and the lengths of its columns.
-- Assumes nothing.
use Prim.Native.Nat.{ℕ, ◌≤◌, ◌<◌}
use mathlib.Core.Path.{◌≡◌, refl, ap₂, ◌∙◌}
use mathlib.Core.Bool.{true, false}
use native.Mathlib.Omega.{arith}
use lib.ListN.{length}
use borrow.Author.Tests.{leb-true, le-leb, ltb-true, lt-ltb}
use Rattle.lists.specs.Below.{all_below}
use Rattle.lists.proofs.Tests.{by_bool, true-not-false, and_l, and_r, and_i}
use Rattle.lists.proofs.Below.{all_below-in, all_below-out}
use Rattle.counters.specs.Counter.{in_bounds}
use Rattle.placement.specs.declared.Fraction.{Fraction}
use Rattle.placement.specs.Fraction.{at_least}
use Rattle.placement.specs.Rule.{write_p, Bounded}
use Rattle.placement.proofs.Rules.{write_p-cong}
use Rattle.table.specs.declared.Table.{Table}
use Rattle.table.specs.Parts.{weight_of, used_of, read_p, empty}
use Rattle.table.specs.Sound.{in_range, read_sound, server_sound, sound}

-- the lengths, which the lists of the logic do not say by themselves
pub record Arrays (t : Table) : Type 0 where
  pub weights : length t.weights ≡ 256
  pub used : length t.used ≡ 256
  pub numerators : length t.numerators ≡ 256
  pub denominators : length t.denominators ≡ 256
  pub counters : length t.counters ≡ 8

pub empty-arrays : (capacity salt : ℕ) → Arrays (empty capacity salt)
empty-arrays capacity salt = record { weights = refl; used = refl; numerators = refl; denominators = refl; counters = refl }

pub record SoundServer (t : Table) (k : ℕ) : Type 0 where
  pub light : weight_of t k ≤ t.capacity
  pub fits : used_of t k ≤ t.capacity
  pub positive : 1 ≤ (read_p t k).den
  pub small : (read_p t k).den ≤ 16777216
  pub proper : (read_p t k).num ≤ (read_p t k).den
  pub reads : at_least (read_p t k) (write_p (weight_of t) k) ≡ true

pub record Sound (t : Table) : Type 0 where
  pub low : 1 ≤ t.capacity
  pub high : t.capacity ≤ 65536
  pub salted : t.salt < 1073741824
  pub few : t.count ≤ 256
  pub bounds : in_bounds t.counters ≡ true
  pub server : (k : ℕ) → k < t.count → SoundServer t k

pub facts-read : (read write : Fraction) → 1 ≤ read.den → read.den ≤ 16777216 → read.num ≤ read.den → at_least read write ≡ true → read_sound read write ≡ true
unfolding read_sound
facts-read read write a b c d = and_i _ _ (le-leb _ _ a) (and_i _ _ (le-leb _ _ b) (and_i _ _ (le-leb _ _ c) d))

-- a server from its three parts
pub parts : (t : Table) (k : ℕ) → weight_of t k ≤ t.capacity → used_of t k ≤ t.capacity → read_sound (read_p t k) (write_p (weight_of t) k) ≡ true → SoundServer t k
unfolding read_sound
parts t k a b e =
    let f = read_p t k in
    record {
      light = a;
      fits = b;
      positive = leb-true 1 f.den (search and_l);
      small = leb-true f.den 16777216 (search (and_l, and_r));
      proper = leb-true f.num f.den (search (and_l, and_r));
      reads = search (and_l, and_r);
    }

pub read-part : (t : Table) (k : ℕ) → SoundServer t k → read_sound (read_p t k) (write_p (weight_of t) k) ≡ true
read-part t k s = facts-read (read_p t k) (write_p (weight_of t) k) s.positive s.small s.proper s.reads

server-facts : (t : Table) (k : ℕ) → server_sound t k ≡ true → SoundServer t k
unfolding server_sound
server-facts t k e = parts t k
    (leb-true (weight_of t k) t.capacity (search and_l))
    (leb-true (used_of t k) t.capacity (search (and_l, and_r)))
    (search (and_l, and_r))

facts-server : (t : Table) (k : ℕ) → SoundServer t k → server_sound t k ≡ true
unfolding server_sound
facts-server t k s = and_i _ _ (le-leb _ _ s.light) (and_i _ _ (le-leb _ _ s.fits) (read-part t k s))

pub range-high : (capacity salt : ℕ) → in_range capacity salt ≡ true → capacity ≤ 65536
unfolding in_range
range-high capacity salt e = leb-true capacity 65536 (search (and_l, and_r))

pub sound-ranged : (t : Table) → sound t ≡ true → in_range t.capacity t.salt ≡ true
unfolding sound
sound-ranged t e = search and_l

pub sound-facts : (t : Table) → sound t ≡ true → Sound t
unfolding sound in_range
sound-facts t e = record {
  low = leb-true 1 t.capacity (search and_l);
  high = range-high t.capacity t.salt (search and_l);
  salted = ltb-true t.salt 1073741824 (search (and_l, and_r));
  few = leb-true t.count 256 (search (and_l, and_r));
  bounds = search (and_l, and_r);
  server = λ k l. server-facts t k (all_below-out (server_sound t) t.count (search (and_l, and_r)) k l);
}

-- what the places of the words hang on
pub sound_bounds : (t : Table) → sound t ≡ true → (t.capacity ≤ 65536) × (t.count ≤ 256)
sound_bounds t e = let s = sound-facts t e in (s.high, s.few)

-- as a loop over the servers shows it
pub tested-sound : (t : Table) → in_range t.capacity t.salt ≡ true → t.count ≤ 256 → in_bounds t.counters ≡ true → all_below (server_sound t) t.count ≡ true → sound t ≡ true
unfolding sound
tested-sound t a b c d = and_i _ _ a (and_i _ _ (le-leb _ _ b) (and_i _ _ c d))

pub facts-sound : (t : Table) → Sound t → sound t ≡ true
unfolding in_range
facts-sound t s = tested-sound t
    (and_i _ _ (le-leb _ _ s.low) (and_i _ _ (le-leb _ _ s.high) (lt-ltb _ _ s.salted)))
    s.few
    s.bounds
    (all_below-in (server_sound t) t.count (λ k l. facts-server t k (s.server k l)))

-- one server that is not sound
pub server-unsound : (t : Table) (k : ℕ) → k < t.count → server_sound t k ≡ false → sound t ≡ false
server-unsound t k l e = by_bool (sound t) (λ d. absurd (true-not-false (facts-server t k ((sound-facts t d).server k l)) e)) (λ d. d)

-- the weights of a sound table can be added
pub sound-bounded : (t : Table) → length t.weights ≡ 256 → Sound t → Bounded t.weights t.count
sound-bounded t a s = record { few = s.few; each = omega (arith, s.few); light = λ k l. omega (arith, (s.server k l).light, s.high) }

pub empty-sound : (capacity salt : ℕ) → in_range capacity salt ≡ true → sound (empty capacity salt) ≡ true
unfolding all_below in_bounds
empty-sound capacity salt r = tested-sound (empty capacity salt) r (omega arith) refl refl

-- a server is as sound in another table that has the same there, and the same weights up to there
pub server-same : (t u : Table) (k : ℕ) → u.capacity ≡ t.capacity → ((i : ℕ) → i ≤ k → weight_of u i ≡ weight_of t i) → used_of u k ≡ used_of t k → read_p u k ≡ read_p t k → SoundServer t k → SoundServer u k
server-same t u k c w e r s =
    parts u k (omega (arith, w k (omega arith))) (omega arith)
    (ap₂ read_sound r (write_p-cong (weight_of u) (weight_of t) k w) ∙ read-part t k s)
