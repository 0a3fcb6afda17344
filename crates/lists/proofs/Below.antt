-- Laws of testing, choosing, counting and adding among the numbers below n.
-- Assumes nothing.
use Prim.Native.Nat.{ℕ, zero, suc, ◌+◌, ◌-◌, ◌*◌, ◌≤◌, ◌<◌}
use mathlib.Core.List.Memᴰ
use mathlib.Core.List.{List, [], ◌∷◌, ◌++◌, append-nil, append_assoc, Memᴰ}
use mathlib.Core.Logic.{◌⊎◌, inl, inr}
use lib.ListN.{length, set, replicate, length-set, length-replicate, length-append, get_or-replicate, get_or-append}
use lib.Seq.{sets, get_or-set_same, get_or-set_other, get_or-append-add, ext_get_or}
use mathlib.Core.Path.{◌≡◌, refl, sym, ap, ◌∙◌, subst}
use mathlib.Core.Bool.{Bool, true, false, cond, not, ◌&&◌, ◌||◌}
use Rattle.std.specs.Prelude.{Option, Some, option_map}
use Rattle.std.specs.Option.{option_or}
use native.Mathlib.Nat.{add-zero, add-suc, suc-add, mul-zero, mul-suc}
use native.Mathlib.Numerals.{add-one, sub-one}
use native.Mathlib.Omega.{arith}
use lib.Dec.{eqb, ltb}
use borrow.Author.Tests.{eqb-true, eqb-false, ltb-true, ltb-false}
use Rattle.lists.specs.Below.{nth, all_below, some_below, highest, or_zero, upward, count_below, total, set_below, join_below}
use Rattle.lists.proofs.Tests.{by_bool, true-not-false, and_l, and_r, and_i}

-- k is below n where it is below suc n and n does not pass
not_top : (p : ℕ → Bool) (n k : ℕ) → k < suc n → p k ≡ true → p n ≡ false → k < n
not_top p n k l q e = by_bool (eqb k n)
    (λ d. absurd (true-not-false (subst (λ (i : ℕ). p i ≡ true) (eqb-true k n d) q) e))
    (λ d. omega (arith, eqb-false k n d))

-- where some number below n passes, the highest that does is below n and passes, and none above it does
pub record Highest (p : ℕ → Bool) (n k : ℕ) : Type 0 where
  pub below : k < n
  pub passes : p k ≡ true
  pub none_above : (i : ℕ) → k < i → i < n → p i ≡ false

pub highest-is : (p : ℕ → Bool) (n i : ℕ) → i < n → p i ≡ true → Highest p n (or_zero (highest p n))
unfolding highest or_zero
highest-is p zero i l q = absurd (omega arith)
highest-is p (suc n) i l q = by_bool (p n)
    (λ e. rw e (record { below = omega arith; passes = e; none_above = λ j a b. absurd (omega arith) }))
    (λ e.
    let h = highest-is p n i (not_top p n i l q e) q in
    rw e (record {
      below = omega (arith, h.below);
      passes = h.passes;
      none_above = λ j a b. by_bool (eqb j n)
          (λ d. rw (eqb-true j n d) e)
          (λ d. h.none_above j a (omega (arith, eqb-false j n d)));
    }))

pub highest-le : (p : ℕ → Bool) (n : ℕ) → or_zero (highest p n) ≤ n
unfolding highest or_zero
highest-le p zero = omega arith
highest-le p (suc n) = by_bool (p n) (λ e. rw e (omega arith)) (λ e. rw e (omega (arith, highest-le p n)))

-- there is only one such number
pub highest-only : (p : ℕ → Bool) (n j k : ℕ) → Highest p n j → Highest p n k → j ≡ k
highest-only p n j k a b = by_bool (ltb j k)
    (λ d. absurd (true-not-false b.passes (a.none_above k (ltb-true j k d) b.below)))
    (λ d. by_bool (ltb k j)
    (λ e. absurd (true-not-false a.passes (b.none_above j (ltb-true k j e) a.below)))
    (λ e. omega (arith, ltb-false j k d, ltb-false k j e)))

pub highest-cong : (p q : ℕ → Bool) (n : ℕ) → ((k : ℕ) → k < n → p k ≡ q k) → highest p n ≡ highest q n
unfolding highest
highest-cong p q zero h = refl
highest-cong p q (suc n) h = rw (h n (omega arith), highest-cong p q n (λ k l. h k (omega arith)))

pub total-cong : (f g : ℕ → ℕ) (n : ℕ) → ((k : ℕ) → k < n → f k ≡ g k) → total f n ≡ total g n
unfolding total
total-cong f g zero h = refl
total-cong f g (suc n) h = rw (h n (omega arith), total-cong f g n (λ k l. h k (omega arith)))

pub total-le : (f : ℕ → ℕ) (most n : ℕ) → ((k : ℕ) → k < n → f k ≤ most) → total f n ≤ n * most
unfolding total
total-le f most zero h = omega arith
total-le f most (suc n) h = omega (arith, total-le f most n (λ k l. h k (omega arith)), h n (omega arith))

pub total_mono : (f g : ℕ → ℕ) (n : ℕ) → ((k : ℕ) → k < n → f k ≤ g k) → total f n ≤ total g n
unfolding total
total_mono f g zero h = omega arith
total_mono f g (suc n) h = omega (arith, total_mono f g n (λ k l. h k (omega arith)), h n (omega arith))

-- the sum below a number that counts is less
pub total-less : (f : ℕ → ℕ) (n k : ℕ) → k < n → 0 < f k → total f k < total f n
unfolding total
total-less f zero k l h = absurd (omega arith)
total-less f (suc n) k l h = by_bool (eqb k n)
    (λ d. let e : k ≡ n = eqb-true k n d in rw e (omega (arith, rw e at h)))
    (λ d. omega (arith, total-less f n k (omega (arith, eqb-false k n d)) h))

-- nothing comes after n
pub total-rest : (f : ℕ → ℕ) (n m : ℕ) → n ≤ m → ((k : ℕ) → n ≤ k → f k ≡ 0) → total f m ≡ total f n
unfolding total
total-rest f n zero l h = let e : n ≡ 0 = omega arith in rw e
total-rest f n (suc m) l h = by_bool (eqb n (suc m))
    (λ d. rw (eqb-true n (suc m) d))
    (λ d. let b : n ≤ m = omega (arith, eqb-false n (suc m) d) in omega (arith, total-rest f n m b h, h m b))

-- the sum by its first number
pub total_first : (f : ℕ → ℕ) (n : ℕ) → total f (suc n) ≡ f 0 + total (λ k. f (suc k)) n
unfolding total
total_first f zero = omega arith
total_first f (suc n) = omega (arith, total_first f n)

-- one number more, as a loop counts
pub total-more : (f : ℕ → ℕ) (n : ℕ) → total f (n + 1) ≡ total f n + f n
unfolding total
total-more f n = rw add-one refl

-- one number less, as a loop that goes down
pub total-last : (f : ℕ → ℕ) (n : ℕ) → 0 < n → total f n ≡ total f (n - 1) + f (n - 1)
unfolding total
total-last f zero l = absurd (omega arith)
total-last f (suc n) l = rw sub-one refl

pub highest-last : (p : ℕ → Bool) (n : ℕ) (b : Bool) → 0 < n → p (n - 1) ≡ b → highest p n ≡ cond b (Some (n - 1)) (highest p (n - 1))
unfolding highest
highest-last p zero b l e = absurd (omega arith)
highest-last p (suc n) b l e = let d : p n ≡ b = rw sub-one at e in rw (sub-one, d)

-- numbers from k on that fail are not the highest
pub highest-below : (p : ℕ → Bool) (n k : ℕ) → k ≤ n → ((i : ℕ) → k ≤ i → i < n → p i ≡ false) → highest p n ≡ highest p k
unfolding highest
highest-below p zero k l h = let e : k ≡ 0 = omega arith in rw e
highest-below p (suc n) k l h = by_bool (eqb k (suc n))
    (λ d. rw (eqb-true k (suc n) d))
    (λ d.
    let b : k ≤ n = omega (arith, eqb-false k (suc n) d) in
    rw (h n b (omega arith)) (highest-below p n k b (λ i a c. h i a (omega arith))))

-- one of the d numbers from n on passes: the highest is the highest of these
pub highest-among : (p : ℕ → Bool) (n d : ℕ) → some_below (λ i. p (n + i)) d ≡ true → or_zero (highest p (n + d)) ≡ n + or_zero (highest (λ i. p (n + i)) d)
unfolding highest some_below or_zero
highest-among p n zero e = absurd (true-not-false e refl)
highest-among p n (suc d) e = by_bool (p (n + d))
    (λ h. rw (add-suc, h))
    (λ h. rw (add-suc, h) (highest-among p n d (rw h at e)))

-- the highest of the numbers below n + d is one of the last d, or else it is below n
run-next : (n : ℕ) (b : Bool) (d : ℕ) (all last below : Option ℕ) → all ≡ option_or (option_map (λ i. n + i) last) below
    → cond b (Some (n + d)) all ≡ option_or (option_map (λ i. n + i) (cond b (Some d) last)) below
run-next n true d all last below e = refl
run-next n false d all last below e = e

pub highest-run : (p : ℕ → Bool) (n d : ℕ) → highest p (n + d) ≡ option_or (option_map (λ i. n + i) (highest (λ i. p (n + i)) d)) (highest p n)
unfolding highest
highest-run p n zero = ap (highest p) (add-zero n)
highest-run p n (suc d) = ap (highest p) (add-suc n d) ∙ run-next n (p (n + d)) d _ _ _ (highest-run p n d)

-- what is found among n is at most n
pub highest-few : (p : ℕ → Bool) (n i : ℕ) → highest p n ≡ Some i → i ≤ n
unfolding or_zero
highest-few p n i e = omega (arith, ap or_zero e, highest-le p n)

-- one number more, as a loop counts that keeps the highest so far
pub highest-next : (p : ℕ → Bool) (n before after : ℕ) (here b : Bool) → here ≡ p n → here ≡ b → before ≡ or_zero (highest p n) → after ≡ cond b n before → after ≡ or_zero (highest p (n + 1))
unfolding highest or_zero
highest-next p n before after here true e d k a = rw (add-one, ← e, d, a)
highest-next p n before after here false e d k a = rw (add-one, ← e, d, a, k)

-- where at most 0 is left, it is chosen
pub highest-end : (p : ℕ → Bool) (n : ℕ) → n ≤ 1 → or_zero (highest p n) ≡ 0
unfolding highest or_zero
highest-end p zero l = refl
highest-end p (suc zero) l = by_bool (p 0) (λ e. rw e refl) (λ e. rw e refl)
highest-end p (suc (suc n)) l = absurd (omega arith)

-- a loop that goes down: the last of the numbers left is the choice where it passes, and else it is among the others
pub highest-found : (p : ℕ → Bool) (n : ℕ) → 0 < n → p (n - 1) ≡ true → or_zero (highest p n) ≡ n - 1
unfolding or_zero
highest-found p n l e = ap or_zero (highest-last p n true l e)

pub highest-passed : (p : ℕ → Bool) (n : ℕ) → 0 < n → p (n - 1) ≡ false → or_zero (highest p n) ≡ or_zero (highest p (n - 1))
highest-passed p n l e = ap or_zero (highest-last p n false l e)

-- so whether 0 passes does not matter
pub highest-above : (p q : ℕ → Bool) (n : ℕ) → ((k : ℕ) → 0 < k → k < n → p k ≡ q k) → or_zero (highest p n) ≡ or_zero (highest q n)
unfolding highest
highest-above p q zero h = refl
highest-above p q (suc n) h = by_bool (eqb n 0)
    (λ d. let l : suc n ≤ 1 = omega (arith, eqb-true n 0 d) in highest-end p (suc n) l ∙ sym (highest-end q (suc n) l))
    (λ d. by_bool (q n)
    (λ e. rw (h n (omega (arith, eqb-false n 0 d)) (omega arith), e) refl)
    (λ e. rw (h n (omega (arith, eqb-false n 0 d)) (omega arith), e) (highest-above p q n (λ k a b. h k a (omega arith)))))

-- a test of every number below n
pub all_below-in : (p : ℕ → Bool) (n : ℕ) → ((k : ℕ) → k < n → p k ≡ true) → all_below p n ≡ true
unfolding all_below
all_below-in p zero h = refl
all_below-in p (suc n) h = and_i (p n) (all_below p n) (h n (omega arith)) (all_below-in p n (λ k l. h k (omega arith)))

pub all_below-out : (p : ℕ → Bool) (n : ℕ) → all_below p n ≡ true → (k : ℕ) → k < n → p k ≡ true
unfolding all_below
all_below-out p zero e k l = absurd (omega arith)
all_below-out p (suc n) e k l = by_bool (eqb k n)
    (λ d. rw (eqb-true k n d) (and_l (p n) (all_below p n) e))
    (λ d. all_below-out p n (and_r (p n) (all_below p n) e) k (omega (arith, eqb-false k n d)))

-- one that fails
pub all_below-not : (p : ℕ → Bool) (n k : ℕ) → k < n → p k ≡ false → all_below p n ≡ false
all_below-not p n k l e = by_bool (all_below p n) (λ d. absurd (true-not-false (all_below-out p n d k l) e)) (λ d. d)

-- one number more, as a loop counts
pub all_below-more : (p : ℕ → Bool) (n : ℕ) → all_below p n ≡ true → p n ≡ true → all_below p (n + 1) ≡ true
unfolding all_below
all_below-more p n a b = rw (add-one, b, a)

-- one number more, whether it passes or not
pub all_below-next : (p : ℕ → Bool) (n : ℕ) (here before : Bool) → here ≡ p n → before ≡ all_below p n → here && before ≡ all_below p (n + 1)
unfolding all_below
all_below-next p n here before e d = rw (add-one, e, d)

pub all_below-cong : (p q : ℕ → Bool) (n : ℕ) → ((k : ℕ) → k < n → p k ≡ q k) → all_below p n ≡ all_below q n
unfolding all_below
all_below-cong p q zero h = refl
all_below-cong p q (suc n) h = rw (h n (omega arith), all_below-cong p q n (λ k l. h k (omega arith)))

-- a test of some number below n
pub some_below-in : (p : ℕ → Bool) (n k : ℕ) → k < n → p k ≡ true → some_below p n ≡ true
unfolding some_below
some_below-in p zero k l e = absurd (omega arith)
some_below-in p (suc n) k l e = by_bool (p n) (λ d. rw d) (λ d. rw d (some_below-in p n k (not_top p n k l e d) e))

pub some_below-none : (p : ℕ → Bool) (n : ℕ) → ((k : ℕ) → k < n → p k ≡ false) → some_below p n ≡ false
unfolding some_below
some_below-none p zero h = refl
some_below-none p (suc n) h = rw (h n (omega arith)) (some_below-none p n (λ k l. h k (omega arith)))

-- one number more, as a loop counts
pub some_below-more : (p : ℕ → Bool) (n : ℕ) → some_below p n ≡ false → p n ≡ false → some_below p (n + 1) ≡ false
unfolding some_below
some_below-more p n a b = rw (add-one, b, a)

-- one number more, whether it passes or not
pub some_below-next : (p : ℕ → Bool) (n : ℕ) (here before : Bool) → here ≡ p n → before ≡ some_below p n → here || before ≡ some_below p (n + 1)
unfolding some_below
some_below-next p n here before e d = rw (add-one, e, d)

-- where none passes each fails
pub some_below-out : (p : ℕ → Bool) (n : ℕ) → some_below p n ≡ false → (k : ℕ) → k < n → p k ≡ false
some_below-out p n e k l = by_bool (p k) (λ d. absurd (true-not-false (some_below-in p n k l d) e)) (λ d. d)

-- none of the d numbers from n on passes
pub highest-past : (p : ℕ → Bool) (n d : ℕ) → some_below (λ i. p (n + i)) d ≡ false → highest p (n + d) ≡ highest p n
highest-past p n d e = highest-below p (n + d) n (omega arith)
    (λ i a b. let z : i ≡ n + (i - n) = omega arith in ap p z ∙ some_below-out (λ j. p (n + j)) d e (i - n) (omega arith))

-- the same, as a loop that goes down by d
pub highest-down : (p : ℕ → Bool) (n d : ℕ) (b : Bool) → d ≤ n → b ≡ some_below (λ i. p (n - d + i)) d → b ≡ false → highest p (n - d) ≡ highest p n
highest-down p n d b l e f = sym (highest-past p (n - d) d (sym e ∙ f)) ∙ ap (highest p) (omega arith)

pub some_below-cong : (p q : ℕ → Bool) (n : ℕ) → ((k : ℕ) → k < n → p k ≡ q k) → some_below p n ≡ some_below q n
unfolding some_below
some_below-cong p q zero h = refl
some_below-cong p q (suc n) h = rw (h n (omega arith), some_below-cong p q n (λ k l. h k (omega arith)))

-- the numbers that pass, as a list
pub upward-in : (p : ℕ → Bool) (n k : ℕ) → k < n → p k ≡ true → Memᴰ k (upward p n)
unfolding upward
upward-in p zero k l q = absurd (omega arith)
upward-in p (suc n) k l q = by_bool (eqb k n)
    (λ d. Memᴰ.append_right (upward p n) {t = cond (p n) (n ∷ []) []} (rw (ap p (sym (eqb-true k n d)) ∙ q) (Memᴰ.head (eqb-true k n d))))
    (λ d. Memᴰ.append_left {s = upward p n} (cond (p n) (n ∷ []) []) (upward-in p n k (omega (arith, eqb-false k n d)) q))

pub upward-out : (p : ℕ → Bool) (n k : ℕ) → Memᴰ k (upward p n) → (k < n) × (p k ≡ true)
unfolding upward
upward-out p zero k m = absurd (Memᴰ.not-nil m)
upward-out p (suc n) k m = go (upward-out p n k) (Memᴰ.append_cases (upward p n) m)
  where
    go : (Memᴰ k (upward p n) → (k < n) × (p k ≡ true)) → Memᴰ k (upward p n) ⊎ Memᴰ k (cond (p n) (n ∷ []) []) → (k < suc n) × (p k ≡ true)
    go ih (inl d) = let i = ih d in (omega arith, i.1)
    go ih (inr d) = by_bool (p n)
        (λ e. let q : k ≡ n = Memᴰ.eq_of_singleton (rw e at d) in (omega arith, subst (λ (i : ℕ). p i ≡ true) (sym q) e))
        (λ e. absurd (Memᴰ.not-nil {a = k} (rw e at d)))

pub upward-cong : (p q : ℕ → Bool) (n : ℕ) → ((k : ℕ) → k < n → p k ≡ q k) → upward p n ≡ upward q n
unfolding upward
upward-cong p q zero h = refl
upward-cong p q (suc n) h = rw (h n (omega arith), upward-cong p q n (λ k l. h k (omega arith)))

-- one number more, as a loop counts
pub upward-none : (p : ℕ → Bool) (n : ℕ) → ((k : ℕ) → k < n → p k ≡ false) → upward p n ≡ []
unfolding upward
upward-none p zero h = refl
upward-none p (suc n) h = rw (h n (omega arith), upward-none p n (λ k l. h k (omega arith)))

pub upward-more : (p : ℕ → Bool) (n : ℕ) (b : Bool) → p n ≡ b → upward p (n + 1) ≡ upward p n ++ cond b (n ∷ []) []
unfolding upward
upward-more p n b e = rw (add-one, e)

-- the highest that passes comes last
pub upward-last : (p : ℕ → Bool) (n k : ℕ) → k < n → p k ≡ true → ((j : ℕ) → k < j → j < n → p j ≡ false) → upward p n ≡ upward p k ++ (k ∷ [])
unfolding upward
upward-last p zero k l q h = absurd (omega arith)
upward-last p (suc n) k l q h = by_bool (eqb k n)
    (λ d. rw (← (eqb-true k n d), q))
    (λ d.
    let i : k < n = omega (arith, eqb-false k n d) in
    rw (h n i (omega arith), append-nil) (upward-last p n k i q (λ j a b. h j a (omega arith))))

-- how many pass
pub count_below-cong : (p q : ℕ → Bool) (n : ℕ) → ((k : ℕ) → k < n → p k ≡ q k) → count_below p n ≡ count_below q n
unfolding count_below
count_below-cong p q zero h = refl
count_below-cong p q (suc n) h = rw (h n (omega arith), count_below-cong p q n (λ k l. h k (omega arith)))

bit_le : (b : Bool) → cond b 1 0 ≤ 1
bit_le true = omega arith
bit_le false = omega arith

pub count_below-le : (p : ℕ → Bool) (n : ℕ) → count_below p n ≤ n
unfolding count_below
count_below-le p zero = omega arith
count_below-le p (suc n) = omega (arith, bit_le (p n), count_below-le p n)

pub count_below-none : (p : ℕ → Bool) (n : ℕ) → ((k : ℕ) → k < n → p k ≡ false) → count_below p n ≡ 0
unfolding count_below
count_below-none p zero h = refl
count_below-none p (suc n) h = rw (h n (omega arith)) (omega (arith, count_below-none p n (λ k l. h k (omega arith))))

-- more pass below n where a number below it passes than below that number
pub count_below-less : (p : ℕ → Bool) (n k : ℕ) → k < n → p k ≡ true → count_below p k < count_below p n
unfolding count_below
count_below-less p zero k l e = absurd (omega arith)
count_below-less p (suc n) k l e = by_bool (eqb k n)
    (λ d. rw (eqb-true k n d, ap p (sym (eqb-true k n d)) ∙ e) (omega arith))
    (λ d. omega (arith, count_below-less p n k (omega (arith, eqb-false k n d)) e))

length-bit : (n : ℕ) (b : Bool) → length (cond b (n ∷ []) []) ≡ cond b 1 0
length-bit n true = refl
length-bit n false = refl

pub length-upward : (p : ℕ → Bool) (n : ℕ) → length (upward p n) ≡ count_below p n
unfolding upward count_below
length-upward p zero = refl
length-upward p (suc n) = simp (length-append, length-bit) (omega (arith, length-upward p n))

-- one of two tests passes: the first alone, or the second
pub bit-either : (a b : Bool) → cond (a && not b) 1 0 + cond b 1 0 ≡ cond (a || b) 1 0
bit-either true true = refl
bit-either true false = refl
bit-either false true = refl
bit-either false false = refl

pub bit_not : (b : Bool) → cond (not b) 1 0 + cond b 1 0 ≡ 1
bit_not true = refl
bit_not false = refl

pub count_below-either : (p q : ℕ → Bool) (n : ℕ)
    → count_below (λ k. p k && not (q k)) n + count_below q n ≡ count_below (λ k. p k || q k) n
unfolding count_below
count_below-either p q zero = refl
count_below-either p q (suc n) = omega (arith, bit-either (p n) (q n), count_below-either p q n)

pub count_below-not : (p : ℕ → Bool) (n : ℕ) → count_below (λ k. not (p k)) n + count_below p n ≡ n
unfolding count_below
count_below-not p zero = refl
count_below-not p (suc n) = omega (arith, bit_not (p n), count_below-not p n)

-- lists set below n
pub length-set_below : (f : ℕ → ℕ) (n : ℕ) (xs : List ℕ) → length (set_below f n xs) ≡ length xs
unfolding set_below
length-set_below f zero xs = refl
length-set_below f (suc n) xs = length-set (set_below f n xs) n (f n) ∙ length-set_below f n xs

pub set_below-at : (f : ℕ → ℕ) (n : ℕ) (xs : List ℕ) → n ≤ length xs → (k : ℕ) → k < n → nth (set_below f n xs) k ≡ f k
unfolding set_below
set_below-at f zero xs h k l = absurd (omega arith)
set_below-at f (suc n) xs h k l = by_bool (eqb k n)
    (λ d. rw (eqb-true k n d) (get_or-set_same (set_below f n xs) n (f n) 0 (rw length-set_below h)))
    (λ d. get_or-set_other (set_below f n xs) n k (f n) 0 (eqb-false k n d) ∙ set_below-at f n xs (omega arith) k (omega (arith, eqb-false k n d)))

pub set_below-above : (f : ℕ → ℕ) (n : ℕ) (xs : List ℕ) (k : ℕ) → n ≤ k → nth (set_below f n xs) k ≡ nth xs k
unfolding set_below
set_below-above f zero xs k l = refl
set_below-above f (suc n) xs k l = get_or-set_other (set_below f n xs) n k (f n) 0 (λ e. omega arith) ∙ set_below-above f n xs k (omega arith)

-- one number more, as a loop counts
pub set_below-cong : (f g : ℕ → ℕ) (n : ℕ) (xs : List ℕ) → ((k : ℕ) → k < n → f k ≡ g k) → set_below f n xs ≡ set_below g n xs
unfolding set_below
set_below-cong f g zero xs h = refl
set_below-cong f g (suc n) xs h = rw (set_below-cong f g n xs (λ k l. h k (omega arith)), h n (omega arith))

pub set_below-more : (f : ℕ → ℕ) (n : ℕ) (xs ys : List ℕ) (k : ℕ) → ys ≡ set_below f n xs → k ≡ f n → set ys n k ≡ set_below f (n + 1) xs
unfolding set_below
set_below-more f n xs ys k e d = rw (add-one, e, d)

-- a position set to what stands there
pub set-nth : (xs : List ℕ) (k : ℕ) → set xs k (nth xs k) ≡ xs
set-nth [] k = refl
set-nth (x ∷ xs) zero = refl
set-nth (x ∷ xs) (suc k) = rw (set-nth xs k)

pub set_below-self : (f : ℕ → ℕ) (n : ℕ) (xs : List ℕ) → ((k : ℕ) → k < n → f k ≡ nth xs k) → set_below f n xs ≡ xs
unfolding set_below
set_below-self f zero xs h = refl
set_below-self f (suc n) xs h = rw (set_below-self f n xs (λ k l. h k (omega arith)), h n (omega arith)) (set-nth xs n)

-- a list of one number throughout
-- zeros, and what is read past their end, are 0
pub nth-zeros : (n k : ℕ) → nth (replicate n 0) k ≡ 0
nth-zeros zero k = refl
nth-zeros (suc n) zero = refl
nth-zeros (suc n) (suc k) = nth-zeros n k

pub replicate-all : (x : ℕ) (xs : List ℕ) → ((k : ℕ) → k < length xs → nth xs k ≡ x) → xs ≡ replicate (length xs) x
replicate-all x xs h = ext_get_or 0 xs (replicate (length xs) x) (sym (length-replicate {A = ℕ} (length xs) x)) (λ k l. h k l ∙ sym (get_or-replicate (length xs) k x 0 l))

-- two runs stored one after the other
pub sets-append : (l : List ℕ) (at : ℕ) (xs ys : List ℕ) → sets (sets l at xs) (at + length xs) ys ≡ sets l at (xs ++ ys)
sets-append l at [] ys = rw add-zero
sets-append l at (x ∷ xs) ys = rw (add-suc, ← suc-add, sets-append (set l at x) (suc at) xs ys)

-- lists of one length, one after another: how long they are together, and where each stands
module _ (width : ℕ) (f : ℕ → List ℕ) (each : (k : ℕ) → length (f k) ≡ width) where
  pub length-join : (n : ℕ) → length (join_below f n) ≡ width * n
  unfolding join_below
  length-join zero = sym (mul-zero width)
  length-join (suc n) = length-append (join_below f n) (f n) ∙ omega (arith, length-join n, each n, mul-suc width n)

  pub join-at : (n : ℕ) (rest : List ℕ) (k i : ℕ) → k < n → i < width → nth (join_below f n ++ rest) (width * k + i) ≡ nth (f k) i
  unfolding join_below
  join-at zero rest k i l m = absurd (omega arith)
  join-at (suc n) rest k i l m =
      let apart : (join_below f n ++ f n) ++ rest ≡ join_below f n ++ (f n ++ rest) = append_assoc (join_below f n) (f n) rest in
      by_bool (eqb k n)
      (λ e.
      let here : k ≡ n = eqb-true k n e in
      rw (apart, here, ← length-join n)
      (get_or-append-add (join_below f n) (f n ++ rest) i 0 ∙ get_or-append (f n) rest 0 i (omega (arith, each n))))
      (λ e. rw apart (join-at n (f n ++ rest) k i (omega (arith, eqb-false k n e)) m))

-- one list more, as a loop counts
pub join_more : (f : ℕ → List ℕ) (n : ℕ) → join_below f (n + 1) ≡ join_below f n ++ f n
unfolding join_below
join_more f n = rw add-one

pub join-cong : (f g : ℕ → List ℕ) (n : ℕ) → ((k : ℕ) → k < n → f k ≡ g k) → join_below f n ≡ join_below g n
unfolding join_below
join-cong f g zero h = refl
join-cong f g (suc n) h = rw (join-cong f g n (λ k l. h k (omega arith)), h n (omega arith))
