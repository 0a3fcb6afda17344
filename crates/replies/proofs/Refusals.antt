-- Laws of rows of refusals: what a call with these rows gives, and what holds where it is accepted.
-- Assumes nothing.
use Prim.Native.Nat.{ℕ, suc, ◌≤◌, ◌<◌}
use mathlib.Core.Path.{◌≡◌, refl, sym, ap, ◌∙◌}
use mathlib.Core.Logic.{◌≢◌, ⊎_elim}
use mathlib.Core.Bool.{Bool, true, false, cond, ◌&&◌}
use mathlib.Core.List.Memᴰ
use mathlib.Core.List.{List, [], ◌∷◌, ◌++◌, Memᴰ}
use native.Mathlib.Omega.{arith}
use lib.Dec.{ltb, eqb}
use borrow.Author.Tests.{ltb-true, eqb-true, eqb-false, eq-eqb, ne_eqb}
use Rattle.lists.proofs.Tests.{by_bool, and_l, and_r}
use Rattle.replies.specs.Refusal.{Row, ◌when◌, first_of, rising, settle}
use Rattle.replies.specs.declared.Reply.{Reply}
use Rattle.replies.specs.Reply.{refused, reply_by}

module _ {A : Type 0} (rows : List Row) (x y : A) where
  pub settle-yes : first_of rows ≡ 0 → settle rows x y ≡ x
  unfolding settle
  settle-yes e = rw (eq-eqb (first_of rows) 0 e)

  pub settle-no : (first_of rows ≡ 0 → ⊥) → settle rows x y ≡ y
  unfolding settle
  settle-no f = rw (ne_eqb (first_of rows) 0 f)

  -- what holds of both results holds of what the call gives
  pub settle-either : (P : A → Type 0) → (first_of rows ≡ 0 → P x) → P y → P (settle rows x y)
  unfolding settle
  settle-either P f q = by_bool (eqb (first_of rows) 0) (λ e. rw e (f (eqb-true (first_of rows) 0 e))) (λ e. rw e q)

-- rows of which none applies: the first does not, nor does any after it
pub passed : (n : ℕ) (b : Bool) (rows : List Row) → first_of (suc n when b ∷ rows) ≡ 0 → (b ≡ false) × (first_of rows ≡ 0)
unfolding first_of
passed n true rows e = absurd (omega arith)
passed n false rows e = (refl, e)

-- rows after rows whose numbers are not 0: the later ones count where none of the earlier applies
unfoldable pub numbered : List Row → Bool
numbered [] = true
numbered (r ∷ rows) = ltb 0 r.number && numbered rows

pub first-after : (rows more : List Row) → numbered rows ≡ true → first_of (rows ++ more) ≡ cond (eqb (first_of rows) 0) (first_of more) (first_of rows)
unfolding numbered first_of
first-after [] more n = refl
first-after (r ∷ rows) more n = by_bool r.applies
    (λ d. rw (d, ne_eqb r.number 0 (λ z. omega (arith, ltb-true 0 r.number (and_l (ltb 0 r.number) (numbered rows) n)))))
    (λ d. rw d (first-after rows more (and_r (ltb 0 r.number) (numbered rows) n)))

module _ (rows more : List Row) (n : numbered rows ≡ true) where
  pub first-later : first_of rows ≡ 0 → first_of (rows ++ more) ≡ first_of more
  first-later z = first-after rows more n ∙ rw (eq-eqb (first_of rows) 0 z)

  pub first-earlier : first_of rows ≢ 0 → first_of (rows ++ more) ≡ first_of rows
  first-earlier f = first-after rows more n ∙ rw (ne_eqb (first_of rows) 0 f)

  pub passed-both : first_of (rows ++ more) ≡ 0 → (first_of rows ≡ 0) × (first_of more ≡ 0)
  passed-both z = by_bool (eqb (first_of rows) 0)
      (λ e. let y = eqb-true (first_of rows) 0 e in (y, sym (first-later y) ∙ z))
      (λ e. let y = eqb-false (first_of rows) 0 e in absurd (y (sym (first-earlier y) ∙ z)))

-- two calls of the same refusal: what holds between their results holds between what they give
pub first-same : (n : ℕ) (b c : Bool) (r s : List Row) → b ≡ c → (b ≡ false → first_of r ≡ first_of s) → first_of (n when b ∷ r) ≡ first_of (n when c ∷ s)
unfolding first_of
first-same n b c r s e f = rw (← e) (by_bool b (λ d. rw d) (λ d. rw d (f d)))

-- and with rows after them
pub more_same : (r s x y : List Row) → numbered r ≡ true → numbered s ≡ true → first_of r ≡ first_of s → (first_of r ≡ 0 → first_of x ≡ first_of y) → first_of (r ++ x) ≡ first_of (s ++ y)
more_same r s x y n o e f = by_bool (eqb (first_of r) 0)
    (λ d. let z = eqb-true (first_of r) 0 d in first-later r x n z ∙ f z ∙ sym (first-later s y o (sym e ∙ z)))
    (λ d. let z = eqb-false (first_of r) 0 d in first-earlier r x n z ∙ e ∙ sym (first-earlier s y o (λ w. z (e ∙ w))))

module _ (r s : List Row) (e : first_of r ≡ first_of s) where
  pub settle-both : {A : Type 0} (R : A → A → Type 0) (x x' y y' : A) → (first_of r ≡ 0 → R x x') → R y y' → R (settle r x y) (settle s x' y')
  unfolding settle
  settle-both R x x' y y' f q = rw (← e) (by_bool (eqb (first_of r) 0) (λ d. rw d (f (eqb-true (first_of r) 0 d))) (λ d. rw d q))

  pub reply-same : (x y : Reply) → (first_of r ≡ 0 → x ≡ y) → reply_by r x ≡ reply_by s y
  unfolding reply_by
  reply-same x y f = settle-both (◌≡◌ {A = Reply}) x y _ _ f (ap (λ (n : ℕ). refused n 0) e)

-- where the numbers rise, the first row that applies has the lowest number that applies, and it is not 0
first_above : (rows : List Row) (n : ℕ) → rising n rows ≡ true → (r : Row) → Memᴰ r rows → r.applies ≡ true → (n < first_of rows) × (first_of rows ≤ r.number)
unfolding rising first_of
first_above [] n h r d a = absurd (Memᴰ.not-nil d)
first_above (q ∷ rows) n h r d a =
    let low = ltb-true n q.number (and_l (ltb n q.number) (rising q.number rows) h) in
    let rest = and_r (ltb n q.number) (rising q.number rows) h in
    ⊎_elim
    (λ (e : r ≡ q).
    let f : q.applies ≡ true = rw e at a in
    let g : r.number ≡ q.number = ap (λ (x : Row). x.number) e in
    rw f (omega arith, omega arith))
    (λ (m : Memᴰ r rows).
    let s = first_above rows q.number rest r m a in
    by_bool q.applies (λ f. rw f (omega arith, omega (arith, s))) (λ f. rw f (omega (arith, s), omega (arith, s))))
    (Memᴰ.cases_cons d)

pub first-lowest : (rows : List Row) → rising 0 rows ≡ true → (r : Row) → Memᴰ r rows → r.applies ≡ true → (0 < first_of rows) × (first_of rows ≤ r.number)
first-lowest rows h r d a = first_above rows 0 h r d a
