-- Every update keeps a sound table sound.
-- Assumes nothing.
use Prim.Native.Nat.{ℕ, suc, ◌≤◌, ◌<◌}
use mathlib.Core.Path.{◌≡◌, ap, ap₂, ◌∙◌}
use mathlib.Core.Bool.{true}
use mathlib.Core.List.{List}
use native.Mathlib.Omega.{arith}
use Rattle.lists.proofs.Tests.{by_bool, at-or-else}
use Rattle.counters.specs.Counter.{in_bounds}
use Rattle.counters.proofs.Counters.{counted-bounds}
use Rattle.placement.specs.declared.Fraction.{Fraction}
use Rattle.placement.specs.Fraction.{at_least, raise}
use Rattle.placement.specs.Rule.{write_p}
use Rattle.placement.proofs.Fractions.{at_least-refl}
use Rattle.placement.proofs.Rules.{write_p-proper, write_p-small, write_p-cong}
use Rattle.table.specs.declared.Table.{Table}
use Rattle.table.specs.Parts.{with_counters, weight_of, used_of, read_p}
use Rattle.table.specs.Sound.{read_sound, server_sound, sound}
use Rattle.table.proofs.Soundness.{Arrays, SoundServer, facts-read, parts, read-part, sound-facts, facts-sound, server-same}
use Rattle.upkeep.specs.Upkeep.{with_server, with_weight, with_entry, with_opened}
use Rattle.upkeep.proofs.Upkeep.{with_server-is, with_weight-is, with_entry-is}

-- WriteP as a ReadP
write_read : (weight : ℕ → ℕ) (k : ℕ) → k < 256 → ((i : ℕ) → i ≤ k → weight i ≤ 65536) → read_sound (write_p weight k) (write_p weight k) ≡ true
write_read weight k few light =
    let p = write_p-proper weight k in
    facts-read _ _ p.positive (write_p-small weight k few light) p.at_most_one (at_least-refl (write_p weight k))

-- a ReadP raised to a WriteP
raise-read : (read write : Fraction) → 1 ≤ read.den → read.den ≤ 16777216 → read.num ≤ read.den → read_sound write write ≡ true → read_sound (raise read write) write ≡ true
unfolding raise
raise-read read write a b c d = by_bool (at_least read write) (λ e. rw e (facts-read read write a b c e)) (λ e. rw e d)

module _ (t : Table) (weight : ℕ) (a : Arrays t) (h : sound t ≡ true) (l : t.count < 256) (w : weight ≤ t.capacity) where
  server-light : (k : ℕ) → k < suc t.count → weight_of (with_server t weight) k ≤ t.capacity
  server-light k m =
      let c = with_server-is t weight a l in
      at-or-else (λ i. weight_of (with_server t weight) i ≤ t.capacity) t.count k
      (omega arith)
      (λ n. let i : k < t.count = omega (arith, n) in omega (arith, c.weight_old k i, ((sound-facts t h).server k i).light))

  pub with_server-sound : sound (with_server t weight) ≡ true
  with_server-sound =
      let s = sound-facts t h in
      let u = with_server t weight in
      let c = with_server-is t weight a l in
      facts-sound u (record {
        low = omega arith;
        high = omega arith;
        salted = omega arith;
        few = omega arith;
        bounds = ap in_bounds c.counters ∙ s.bounds;
        server = λ k m. at-or-else (SoundServer u) t.count k
            (parts u t.count
            (omega arith)
            (omega arith)
            (ap (λ f. read_sound f (write_p (weight_of u) t.count)) c.read_new ∙ write_read (weight_of u) t.count l (λ i n. omega (arith, server-light i (omega arith)))))
            (λ n.
            let i : k < t.count = omega (arith, n) in
            server-same t u k c.capacity (λ j q. c.weight_old j (omega arith)) (c.used_old k i) (c.read_old k i) (s.server k i));
      })

module _ (t : Table) (server weight : ℕ) (a : Arrays t) (h : sound t ≡ true) (l : server < t.count) (w : weight ≤ t.capacity) where
  pub with_weight-light : (k : ℕ) → k < t.count → weight_of (with_weight t server weight) k ≤ t.capacity
  with_weight-light k m =
      let s = sound-facts t h in
      let c = with_weight-is t server weight a s.few l in
      at-or-else (λ i. weight_of (with_weight t server weight) i ≤ t.capacity) server k
      (omega arith)
      (λ n. omega (arith, c.weight_old k n, (s.server k m).light))

  pub with_weight-sound : sound (with_weight t server weight) ≡ true
  with_weight-sound =
      let s = sound-facts t h in
      let u = with_weight t server weight in
      let c = with_weight-is t server weight a s.few l in
      facts-sound u (record {
        low = omega arith;
        high = omega arith;
        salted = omega arith;
        few = omega arith;
        bounds = ap in_bounds c.counters ∙ s.bounds;
        server = λ k m.
            let i : k < t.count = omega arith in
            let o = s.server k i in
            parts u k
            (omega (arith, with_weight-light k i))
            (omega (arith, c.used k))
            (ap (λ f. read_sound f (write_p (weight_of u) k)) (c.raised k i)
            ∙ raise-read (read_p t k) (write_p (weight_of u) k) o.positive o.small o.proper (write_read (weight_of u) k (omega arith) (λ j q. omega (arith, with_weight-light j (omega arith)))));
      })

pub with_entry-sound : (t : Table) (server : ℕ) → Arrays t → sound t ≡ true → server < t.count → used_of t server < t.capacity → sound (with_entry t server) ≡ true
with_entry-sound t server a h l r =
    let s = sound-facts t h in
    let u = with_entry t server in
    let c = with_entry-is t server a s.few l in
    facts-sound u (record {
      low = omega arith;
      high = omega arith;
      salted = omega arith;
      few = omega arith;
      bounds = ap in_bounds c.counters ∙ s.bounds;
      server = λ k m.
          let o = s.server k (omega arith) in
          parts u k
          (omega (arith, c.weight k))
          (at-or-else (λ i. used_of u i ≤ u.capacity) server k (omega arith) (λ n. omega (arith, c.used_old k n)))
          (ap₂ read_sound (c.read k) (write_p-cong (weight_of u) (weight_of t) k (λ j q. c.weight j)) ∙ read-part t k o);
    })

-- a table is as sound with other counters, if these are within their bounds exactly when its own are
pub counters-sound : (t : Table) (counters : List ℕ) → in_bounds counters ≡ in_bounds t.counters → sound (with_counters t counters) ≡ sound t
unfolding sound server_sound
counters-sound t counters e = rw e

-- no counter falls, and each stops at its bound
pub with_opened-sound : (t : Table) (tenant opened : ℕ) → sound (with_opened t tenant opened) ≡ sound t
unfolding with_opened
with_opened-sound t tenant opened = counters-sound t _ (counted-bounds t.counters tenant opened)
