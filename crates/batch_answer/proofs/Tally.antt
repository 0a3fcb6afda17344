-- Servers opened for one id, counted from the highest down: how many there are from k on, and the lowest of them.
-- Assumes nothing.
use Prim.Native.Nat.{ℕ, zero, suc, ◌+◌, ◌≤◌, ◌<◌}
use mathlib.Core.Path.{◌≡◌, refl, sym, ◌∙◌}
use mathlib.Core.Bool.{Bool, true, false, not}
use native.Mathlib.Omega.{arith}
use lib.Dec.{eqb, ltb}
use borrow.Author.Tests.{eqb-true, eq-eqb, ne_eqb, ltb-true, ltb-false}
use Rattle.lists.specs.Below.{some_below, count_below}
use Rattle.lists.proofs.Tests.{by_bool, true-not-false, at-or-else, and_l, and_r, and_i, iff-eq}
use Rattle.lists.proofs.Below.{some_below-in, some_below-none, count_below-none}
use Rattle.batch_answer.specs.Answer.{ends_at}

-- the end is one more than the lowest server that is opened from k on, and 0 where there is none
pub record Tally (opens : ℕ → Bool) (count k opened end : ℕ) : Type 0 where
  pub counted : opened + count_below opens k ≡ count_below opens count
  pub no_end : end ≡ 0 → (j : ℕ) → k ≤ j → j < count → opens j ≡ false
  pub an_end : (e : ℕ) → end ≡ suc e → (k ≤ e) × (e < count) × (opens e ≡ true) × ((j : ℕ) → k ≤ j → j < e → opens j ≡ false)

module _ (opens : ℕ → Bool) (count : ℕ) where
  pub tally-start : Tally opens count count 0 0
  tally-start = record { counted = omega arith; no_end = λ z j a b. absurd (omega arith); an_end = λ e z. absurd (omega arith) }

  -- where no server is opened at all
  pub tally-none : (k : ℕ) → ((j : ℕ) → opens j ≡ false) → Tally opens count k 0 0
  tally-none k h = record {
    counted = omega (arith, count_below-none opens k (λ j b. h j), count_below-none opens count (λ j b. h j));
    no_end = λ z j a b. h j;
    an_end = λ e z. absurd (omega arith);
  }

  module _ (k opened end : ℕ) (before : Tally opens count (suc k) opened end) where
    pub tally-skip : opens k ≡ false → Tally opens count k opened end
    unfolding count_below
    tally-skip h = record {
      counted = let c : opened + (0 + count_below opens k) ≡ count_below opens count = rw h at before.counted in omega (arith, c);
      no_end = λ z j a b. at-or-else (λ (i : ℕ). opens i ≡ false) k j h (λ d. before.no_end z j (omega (arith, d)) b);
      an_end = λ e z.
          let i = before.an_end e z in
          (omega (arith, i.0), i.1, i.2, λ j a b. at-or-else (λ (l : ℕ). opens l ≡ false) k j h (λ d. i.3 j (omega (arith, d)) b));
    }

    pub tally-open : k < count → opens k ≡ true → Tally opens count k (suc opened) (suc k)
    unfolding count_below
    tally-open l h =
        let c : opened + (1 + count_below opens k) ≡ count_below opens count = rw h at before.counted in
        record {
          counted = omega (arith, c);
          no_end = λ z. absurd (omega arith);
          an_end = λ e z.
              let s : e ≡ k = omega arith in
              (omega arith, omega arith, rw s h, λ j a b. absurd (omega arith));
        }

    -- the server that comes next is not the end yet
    pub tally-above : eqb end (suc k) ≡ false
    tally-above = ne_eqb end (suc k) (λ z. omega (arith, (before.an_end k z).0))

  module _ (opened end : ℕ) (all : Tally opens count 0 opened end) where
    pub tally-count : opened ≡ count_below opens count
    unfolding count_below
    tally-count = omega (arith, all.counted)

    pub tally-nowhere : eqb end 0 ≡ not (some_below opens count)
    tally-nowhere = go end refl
      where
        go : (x : ℕ) → end ≡ x → eqb x 0 ≡ not (some_below opens count)
        go zero z = rw (some_below-none opens count (λ j l. all.no_end z j (omega arith) l))
        go (suc e) z = let i = all.an_end e z in ne_eqb (suc e) 0 (λ x. omega arith) ∙ sym (rw (some_below-in opens count e i.1 i.2))

    pub tally-end : (k : ℕ) → k < count → eqb end (suc k) ≡ ends_at opens k
    unfolding ends_at
    tally-end k l = iff-eq _ _
        (λ z.
        let i = all.an_end k (eqb-true _ _ z) in
        and_i _ _ i.2 (rw (some_below-none opens k (λ j b. i.3 j (omega arith) b))))
        (λ z. go end refl (and_l (opens k) _ z) (and_r (opens k) _ z))
      where
        go : (x : ℕ) → end ≡ x → opens k ≡ true → not (some_below opens k) ≡ true → eqb x (suc k) ≡ true
        go zero z o s = absurd (true-not-false o (all.no_end z k (omega arith) l))
        go (suc e) z o s =
            let i = all.an_end e z in
            by_bool (ltb e k)
            (λ d. absurd (true-not-false (rw (some_below-in opens k e (ltb-true e k d) i.2) at s) refl))
            (λ d. by_bool (ltb k e)
            (λ f. absurd (true-not-false o (i.3 k (omega arith) (ltb-true k e f))))
            (λ f. eq-eqb (suc e) (suc k) (omega (arith, ltb-false e k d, ltb-false k e f))))

    pub tally-low : end ≤ count
    tally-low = go end refl
      where
        go : (x : ℕ) → end ≡ x → x ≤ count
        go zero z = omega arith
        go (suc e) z = omega (arith, (all.an_end e z).1)
