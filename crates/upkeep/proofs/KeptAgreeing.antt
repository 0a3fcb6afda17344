-- Updates of tables that agree below the count agree below the new count.
-- Assumes nothing.
use Prim.Native.Nat.{ℕ, suc, ◌≤◌, ◌<◌}
use mathlib.Core.Path.{◌≡◌, sym, ap, ap₂, ◌∙◌}
use native.Mathlib.Omega.{arith}
use Rattle.lists.proofs.Tests.{at-or-else}
use Rattle.placement.specs.Fraction.{raise}
use Rattle.placement.specs.Rule.{write_p}
use Rattle.placement.proofs.Rules.{write_p-cong}
use Rattle.table.specs.declared.Table.{Table}
use Rattle.table.specs.Parts.{weight_of, used_of, read_p}
use Rattle.table.specs.Agree.{AgreeBelow}
use Rattle.table.proofs.Soundness.{Arrays}
use Rattle.upkeep.specs.Upkeep.{with_server, with_weight, with_entry, with_opened}
use Rattle.upkeep.proofs.Upkeep.{with_server-is, with_weight-is, with_entry-is}

pub agree-with_server : (t u : Table) (weight : ℕ) → Arrays t → Arrays u → t.count < 256 → AgreeBelow t u → AgreeBelow (with_server t weight) (with_server u weight)
agree-with_server t u weight a b l g =
    let x = with_server t weight in
    let y = with_server u weight in
    let c = with_server-is t weight a l in
    let d = with_server-is u weight b (omega arith) in
    let w : (k : ℕ) → k < suc t.count → weight_of x k ≡ weight_of y k = λ k m. at-or-else (λ i. weight_of x i ≡ weight_of y i) t.count k
    (omega (arith, ap (weight_of y) g.count))
    (λ n. let i : k < t.count = omega (arith, n) in c.weight_old k i ∙ g.weight k i ∙ sym (d.weight_old k (omega arith))) in
    record {
      capacity = omega arith;
      salt = omega arith;
      count = omega arith;
      weight = λ k m. w k (omega arith);
      used = λ k m. at-or-else (λ i. used_of x i ≡ used_of y i) t.count k
          (omega (arith, ap (used_of y) g.count))
          (λ n. let i : k < t.count = omega (arith, n) in c.used_old k i ∙ g.used k i ∙ sym (d.used_old k (omega arith)));
      read = λ k m. at-or-else (λ i. read_p x i ≡ read_p y i) t.count k
          (c.read_new
          ∙ write_p-cong (weight_of x) (weight_of y) t.count (λ i n. w i (omega arith))
          ∙ ap (write_p (weight_of y)) g.count
          ∙ sym (ap (read_p y) g.count ∙ d.read_new))
          (λ n. let i : k < t.count = omega (arith, n) in c.read_old k i ∙ g.read k i ∙ sym (d.read_old k (omega arith)));
    }

pub agree-with_weight : (t u : Table) (server weight : ℕ) → Arrays t → Arrays u → t.count ≤ 256 → server < t.count → AgreeBelow t u → AgreeBelow (with_weight t server weight) (with_weight u server weight)
agree-with_weight t u server weight a b f l g =
    let x = with_weight t server weight in
    let y = with_weight u server weight in
    let c = with_weight-is t server weight a f l in
    let d = with_weight-is u server weight b (omega arith) (omega arith) in
    let w : (k : ℕ) → k < t.count → weight_of x k ≡ weight_of y k = λ k m. at-or-else (λ i. weight_of x i ≡ weight_of y i) server k
    (c.weight_new ∙ sym d.weight_new)
    (λ n. c.weight_old k n ∙ g.weight k m ∙ sym (d.weight_old k n)) in
    record {
      capacity = omega arith;
      salt = omega arith;
      count = omega arith;
      weight = λ k m. w k (omega arith);
      used = λ k m. c.used k ∙ g.used k (omega arith) ∙ sym (d.used k);
      read = λ k m.
          let i : k < t.count = omega arith in
          c.raised k i
          ∙ ap₂ raise (g.read k i) (write_p-cong (weight_of x) (weight_of y) k (λ j n. w j (omega arith)))
          ∙ sym (d.raised k (omega arith));
    }

pub agree-with_entry : (t u : Table) (server : ℕ) → Arrays t → Arrays u → t.count ≤ 256 → server < t.count → AgreeBelow t u → AgreeBelow (with_entry t server) (with_entry u server)
agree-with_entry t u server a b f l g =
    let x = with_entry t server in
    let y = with_entry u server in
    let c = with_entry-is t server a f l in
    let d = with_entry-is u server b (omega arith) (omega arith) in
    record {
      capacity = omega arith;
      salt = omega arith;
      count = omega arith;
      weight = λ k m. c.weight k ∙ g.weight k (omega arith) ∙ sym (d.weight k);
      used = λ k m. at-or-else (λ i. used_of x i ≡ used_of y i) server k
          (omega (arith, g.used server l))
          (λ n. c.used_old k n ∙ g.used k (omega arith) ∙ sym (d.used_old k n));
      read = λ k m. c.read k ∙ g.read k (omega arith) ∙ sym (d.read k);
    }

pub agree-with_opened : (t u : Table) (tenant tenant' opened opened' : ℕ) → AgreeBelow t u → AgreeBelow (with_opened t tenant opened) (with_opened u tenant' opened')
unfolding with_opened
agree-with_opened t u tenant tenant' opened opened' g = record {
  capacity = g.capacity;
  salt = g.salt;
  count = g.count;
  weight = g.weight;
  used = g.used;
  read = g.read;
}
