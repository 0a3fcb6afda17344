-- A reweight on both sides.
-- Assumes nothing.
use Prim.Native.Nat.{ℕ, ◌-◌, ◌≤◌, ◌<◌}
use mathlib.Core.Path.{◌≡◌, refl, ap, ap₂, ◌∙◌}
use mathlib.Core.Bool.{true}
use mathlib.Core.List.{List}
use native.Mathlib.Omega.{arith}
use lib.Dec.{leb, ltb}
use borrow.Author.Tests.{leb-false, ltb-false}
use Rattle.lists.proofs.Tests.{by_bool}
use Rattle.draws.specs.Draw.{modulus, draw_of}
use Rattle.placement.specs.declared.Fraction.{Fraction}
use Rattle.placement.specs.Fraction.{raise}
use Rattle.placement.specs.Rule.{write_p, takes, readable}
use Rattle.placement.proofs.Fractions.{exceeds-grows, raise-is}
use Rattle.placement.proofs.Rules.{write_p-cong}
use Rattle.table.specs.declared.Table.{Table}
use Rattle.table.specs.Parts.{weight_of, read_p}
use Rattle.table.specs.Sound.{sound}
use Rattle.upkeep.specs.Upkeep.{with_weight}
use Rattle.upkeep.proofs.Upkeep.{WeightChanged, with_weight-is, with_weight-arrays}
use Rattle.table.proofs.Soundness.{sound-facts}
use Rattle.upkeep.proofs.KeptSound.{with_weight-sound}
use Rattle.replies.specs.Refusal.{first_of}
use Rattle.replies.proofs.Refusals.{passed, settle-yes, settle-no}
use Rattle.server_rows.specs.ServerRows.{reweight_rows}
use Rattle.servers.specs.Servers.{reweight_reply, reweight_table}
use Rattle.history.specs.Call.{reweight, compared}
use Rattle.history.specs.Ledger.{Ledger, put, reweight_rows_l, with_weight_l, rows_of, done_of, enter, reads_l}
use Rattle.history.proofs.Holds.{Holds}
use Rattle.history.proofs.Agree.{Agree, put_is, Step, settled}

module _ {t : Table} {m : List ℕ} {L : Ledger} (A : Agree t m L) (server weight : ℕ) where
  same_rows : first_of (reweight_rows t server weight) ≡ first_of (reweight_rows_l L server weight)
  unfolding first_of reweight_rows reweight_rows_l
  same_rows =
      let e2 = ap (λ (c : ℕ). ltb c weight) A.capacity in
      let e3 = ap (λ (n : ℕ). leb n server) A.count in
      rw (A.is_sound, e2, e3) (by_bool (leb L.servers server)
      (λ d. rw d)
      (λ d.
      let e9 = ap₂ (λ (c u : ℕ). ltb (c - u) weight) A.capacity (A.used server (omega (arith, A.count, leb-false L.servers server d))) in
      rw (d, e9)))

  module _ (light : weight ≤ t.capacity) (there : server < t.count) where
    abbrev u : Table
    u = with_weight t server weight

    abbrev weights : ℕ → ℕ
    weights = put L.weight server weight

    abbrev raised : ℕ → Fraction
    raised k = raise (L.greatest k) (write_p weights k)

    changed : WeightChanged t server weight u
    changed = with_weight-is t server weight A.arrays (sound-facts t A.is_sound).few there

    new-sound : sound u ≡ true
    new-sound = with_weight-sound t server weight A.arrays A.is_sound there light

    new-weight : (k : ℕ) → k < t.count → weight_of u k ≡ weights k
    new-weight k l = put_is L.weight server weight (weight_of u) changed.weight_new k (λ n. changed.weight_old k n ∙ A.weights k l)

    new-read : (k : ℕ) → k < t.count → read_p u k ≡ raised k
    new-read k l = changed.raised k l ∙ ap₂ raise (A.read_ps k l) (write_p-cong (weight_of u) weights k (λ i a. new-weight i (omega arith)))

    -- what was readable still is
    still-readable : (id k : ℕ) → k < t.count → reads_l L id k ≡ true → readable raised L.salt id k ≡ true
    unfolding readable takes
    still-readable id k l e =
        let positive = ((sound-facts u new-sound).server k (omega (arith, changed.count))).positive in
        exceeds-grows modulus (L.greatest k) (raised k) (draw_of L.salt id k)
        (omega (arith, positive, ap (λ (f : Fraction). f.den) (new-read k l)))
        (raise-is (L.greatest k) (write_p weights k)).least.0 e

    holds : Holds t.capacity t.count (readable raised L.salt) L.events m
    holds =
        let H = A.holds in
        record {
          long = H.long;
          rest = H.rest;
          free = H.free;
          fits = H.fits;
          filled = H.filled;
          none_above = H.none_above;
          written = H.written;
          opens = λ id k j n l i b. still-readable id k l (H.opens id k j n l i b);
          tops = H.tops;
        }

    agrees : Agree u m (with_weight_l L server weight)
    unfolding with_weight with_weight_l
    agrees = record {
      is_sound = new-sound;
      arrays = with_weight-arrays t server weight A.arrays;
      capacity = A.capacity;
      salt = A.salt;
      count = A.count;
      weights = new-weight;
      used = A.used;
      read_ps = new-read;
      words = A.words;
      holds = holds;
    }

  pub reweight-step : Step (reweight_reply t server weight) (reweight_table t server weight) m (enter L (reweight server weight))
  unfolding reweight_reply reweight_table enter rows_of done_of reweight_rows compared
  reweight-step = settled L (reweight_rows t server weight) (reweight_rows_l L server weight) same_rows _ _ (reweight_table t server weight) m
      (λ z.
      let a = passed 0 _ _ z in
      let b = passed 1 (ltb t.capacity weight) _ a.1 in
      let c = passed 2 (leb t.count server) _ b.1 in
      rw (settle-yes (reweight_rows t server weight) (with_weight t server weight) t z)
      (record { alike = refl; agrees = agrees (ltb-false t.capacity weight b.0) (leb-false t.count server c.0) }))
      (λ f. rw (settle-no (reweight_rows t server weight) (with_weight t server weight) t f) A)
