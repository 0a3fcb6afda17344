-- The top one of the entries that pass a test: on the highest server, and there the highest-numbered.
-- Assumes nothing.
use Prim.Native.Nat.{ℕ, suc, ◌≤◌, ◌<◌}
use mathlib.Core.Path.{◌≡◌, refl, sym, ap, ◌∙◌}
use mathlib.Core.Bool.{Bool, true}
use Rattle.std.specs.Prelude.{Option, None, Some}
use native.Mathlib.Omega.{arith}
use lib.Dec.{eqb}
use borrow.Author.Tests.{eqb-true, eqb-false}
use Rattle.lists.proofs.Tests.{by_bool}
use Rattle.search.specs.declared.Place.{Place}

-- entry j of server k comes at or before a place
pub record Upto (k j : ℕ) (p : Place) : Type 0 where
  pub below : k ≤ p.server
  pub beside : k ≡ p.server → j ≤ p.entry

place-eq : (p q : Place) → p.server ≡ q.server → p.entry ≡ q.entry → p ≡ q
place-eq p q a b = λ i. record { server = a i; entry = b i }

-- among the first `capacity` entries of the servers below `count`
module _ (B : ℕ → ℕ → Bool) (count capacity : ℕ) where
  pub record Top (p : Place) : Type 0 where
    pub low : p.server < count
    pub inside : p.entry < capacity
    pub on : B p.server p.entry ≡ true
    pub above : (k j : ℕ) → k < count → j < capacity → B k j ≡ true → Upto k j p

  pub record Nowhere : Type 0 where
    pub off : (k j : ℕ) → k < count → j < capacity → B k j ≡ true → ⊥

  unfoldable pub TopAt : Option Place → Type 0
  TopAt None = Nowhere
  TopAt (Some p) = Top p

  -- there is only one
  pub top-same : (o r : Option Place) → TopAt o → TopAt r → o ≡ r
  unfolding TopAt
  top-same None None x y = refl
  top-same None (Some q) x y = absurd (x.off q.server q.entry y.low y.inside y.on)
  top-same (Some p) None x y = absurd (y.off p.server p.entry x.low x.inside x.on)
  top-same (Some p) (Some q) x y =
      let a = x.above q.server q.entry y.low y.inside y.on in
      let b = y.above p.server p.entry x.low x.inside x.on in
      let s : p.server ≡ q.server = omega (arith, a.below, b.below) in
      ap Some (place-eq p q s (omega (arith, a.beside (sym s), b.beside s)))

-- of two tests that agree
pub top-cong : (B C : ℕ → ℕ → Bool) (count capacity : ℕ) → ((k j : ℕ) → k < count → j < capacity → C k j ≡ B k j)
    → (o : Option Place) → TopAt B count capacity o → TopAt C count capacity o
unfolding TopAt
top-cong B C count capacity h None x = record { off = λ k j l i b. x.off k j l i (sym (h k j l i) ∙ b) }
top-cong B C count capacity h (Some p) x = record {
  low = x.low;
  inside = x.inside;
  on = h p.server p.entry x.low x.inside ∙ x.on;
  above = λ k j l i b. x.above k j l i (sym (h k j l i) ∙ b);
}

-- one server more, where nothing passes
module _ (B : ℕ → ℕ → Bool) (count capacity : ℕ) (bare : (j : ℕ) → j < capacity → B count j ≡ true → ⊥) where
  not_last : (k j : ℕ) → k < suc count → j < capacity → B k j ≡ true → k < count
  not_last k j l i b = by_bool (eqb k count)
      (λ d. absurd (bare j i (rw (eqb-true k count d) at b)))
      (λ d. omega (arith, eqb-false k count d))

  pub top-wider : (o : Option Place) → TopAt B count capacity o → TopAt B (suc count) capacity o
  unfolding TopAt
  top-wider None x = record { off = λ k j l i b. x.off k j (not_last k j l i b) i b }
  top-wider (Some p) x = record {
    low = omega (arith, x.low);
    inside = x.inside;
    on = x.on;
    above = λ k j l i b. x.above k j (not_last k j l i b) i b;
  }
