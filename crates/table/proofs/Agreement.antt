-- Tables that agree below the count, and whose counters are alike within their bounds, are alike sound.
-- Assumes nothing.
use mathlib.Core.Bool.{true}
use mathlib.Core.Path.{◌≡◌, sym, ◌∙◌}
use native.Mathlib.Omega.{arith}
use Rattle.lists.proofs.Tests.{iff-eq}
use Rattle.counters.specs.Counter.{in_bounds}
use Rattle.table.specs.declared.Table.{Table}
use Rattle.table.specs.Sound.{sound}
use Rattle.table.specs.Agree.{AgreeBelow}
use Rattle.table.proofs.Soundness.{Sound, server-same, sound-facts, facts-sound}

agree-sym : (t u : Table) → AgreeBelow t u → AgreeBelow u t
agree-sym t u g = record {
  capacity = sym g.capacity;
  salt = sym g.salt;
  count = sym g.count;
  weight = λ k l. sym (g.weight k (omega arith));
  used = λ k l. sym (g.used k (omega arith));
  read = λ k l. sym (g.read k (omega arith));
}

-- the facts of a sound table are those of every table that agrees with it
carry : (t u : Table) → AgreeBelow u t → in_bounds u.counters ≡ true → Sound t → Sound u
carry t u g b s = record {
  low = omega arith;
  high = omega arith;
  salted = omega arith;
  few = omega arith;
  bounds = b;
  server = λ k l. server-same t u k g.capacity (λ i m. g.weight i (omega arith)) (g.used k l) (g.read k l) (s.server k (omega arith));
}

pub agree-sound : (t u : Table) → AgreeBelow t u → in_bounds t.counters ≡ in_bounds u.counters → sound t ≡ sound u
agree-sound t u g c = iff-eq (sound t) (sound u)
    (λ e. let s = sound-facts t e in facts-sound u (carry t u (agree-sym t u g) (sym c ∙ s.bounds) s))
    (λ e. let s = sound-facts u e in facts-sound t (carry u t g (c ∙ s.bounds) s))
