-- The medium after a list of burns, and after marks of one content.
-- Assumes nothing.
use Prim.Native.Nat.{ℕ, zero, suc, ◌-◌, ◌≤◌, ◌<◌}
use mathlib.Core.Path.{◌≡◌, refl, ap, ◌∙◌}
use mathlib.Core.Logic.{◌⊎◌, inl, inr}
use mathlib.Core.List.Memᴰ
use mathlib.Core.List.{List, [], ◌∷◌, ◌++◌, Memᴰ}
use native.Mathlib.Omega.{arith}
use lib.ListN.{length, set, take, drop, length-set, take-append-drop}
use lib.Seq.{get_or-set_same, get_or-set_other}
use lib.Dec.{eqb}
use borrow.Author.Tests.{eqb-true, eqb-false}
use Rattle.lists.specs.Below.{nth}
use Rattle.lists.proofs.Tests.{by_bool}
use Rattle.lists.proofs.Take.{take-append}
use Rattle.medium.specs.Word.{mark_word}
use Rattle.medium.specs.Burn.{Burn, burn_all, invalidations}

pub length-burn_all : (m : List ℕ) (bs : List Burn) → length (burn_all m bs) ≡ length m
unfolding burn_all
length-burn_all m [] = refl
length-burn_all m (b ∷ bs) = length-burn_all (set m b.address b.word) bs ∙ length-set m b.address b.word

pub burn-append : (m : List ℕ) (xs ys : List Burn) → burn_all m (xs ++ ys) ≡ burn_all (burn_all m xs) ys
unfolding burn_all
burn-append m [] ys = refl
burn-append m (x ∷ xs) ys = burn-append (set m x.address x.word) xs ys

-- the first n burns of two lists: those of the first, then those of the second that are left
pub burn-take : (m : List ℕ) (n : ℕ) (xs ys : List Burn) → burn_all m (take n (xs ++ ys)) ≡ burn_all (burn_all m (take n xs)) (take (n - length xs) ys)
burn-take m n xs ys = ap (burn_all m) (take-append n xs ys) ∙ burn-append m (take n xs) (take (n - length xs) ys)

-- a burn that comes first is made where there is a burn to make
pub burn-one : (m : List ℕ) (n : ℕ) (b : Burn) → 0 < n → burn_all m (take n (b ∷ [])) ≡ set m b.address b.word
unfolding burn_all
burn-one m zero b l = absurd (omega arith)
burn-one m (suc zero) b l = refl
burn-one m (suc (suc n)) b l = refl

pub burn-none : (m : List ℕ) (n : ℕ) (bs : List Burn) → n ≤ 0 → burn_all m (take n bs) ≡ m
unfolding burn_all
burn-none m zero bs l = refl
burn-none m (suc n) bs l = absurd (omega arith)

-- a word that no burn names is as before
pub burn-off : (m : List ℕ) (bs : List Burn) (a : ℕ) → ((b : Burn) → Memᴰ b bs → a ≡ b.address → ⊥) → nth (burn_all m bs) a ≡ nth m a
unfolding burn_all
burn-off m [] a h = refl
burn-off m (b ∷ bs) a h =
    burn-off (set m b.address b.word) bs a (λ x d. h x (Memᴰ.tail d))
    ∙ get_or-set_other m b.address a b.word 0 (h b (Memᴰ.head refl))

-- and after the first n of them
pub burn-take-off : (m : List ℕ) (n : ℕ) (bs : List Burn) (a : ℕ) → ((b : Burn) → Memᴰ b bs → a ≡ b.address → ⊥) → nth (burn_all m (take n bs)) a ≡ nth m a
burn-take-off m n bs a h = burn-off m (take n bs) a (λ b d. h b (rw (← take-append-drop n bs) (Memᴰ.append_left {s = take n bs} (drop n bs) d)))

module _ (content : ℕ) where
  -- the burn of a mark
  abbrev pub mark_burn : ℕ → Burn
  mark_burn a = record { address = a; word = mark_word content }

  pub length-invalidations : (xs : List ℕ) → length (invalidations content xs) ≡ length xs
  unfolding invalidations
  length-invalidations [] = refl
  length-invalidations (x ∷ xs) = rw (length-invalidations xs)

  pub invalidations-append : (xs ys : List ℕ) → invalidations content (xs ++ ys) ≡ invalidations content xs ++ invalidations content ys
  unfolding invalidations
  invalidations-append [] ys = refl
  invalidations-append (x ∷ xs) ys = rw (invalidations-append xs ys)

  pub invalidations-last : (xs : List ℕ) (a : ℕ) → invalidations content (xs ++ (a ∷ [])) ≡ invalidations content xs ++ (mark_burn a ∷ [])
  unfolding invalidations
  invalidations-last xs a = invalidations-append xs (a ∷ [])

  pub address-in : (xs : List ℕ) (b : Burn) → Memᴰ b (invalidations content xs) → Memᴰ b.address xs
  unfolding invalidations
  address-in [] b d = absurd (Memᴰ.not-nil d)
  address-in (x ∷ xs) b d = go (address-in xs b) (Memᴰ.cases_cons d)
    where
      go : (Memᴰ b (invalidations content xs) → Memᴰ b.address xs)
          → (b ≡ record { address = x; word = mark_word content }) ⊎ Memᴰ b (invalidations content xs)
          → Memᴰ b.address (x ∷ xs)
      go ih (inl e) = Memᴰ.head (ap (λ (z : Burn). z.address) e)
      go ih (inr e) = Memᴰ.tail (ih e)

  pub word_in : (xs : List ℕ) (b : Burn) → Memᴰ b (invalidations content xs) → b.word ≡ mark_word content
  unfolding invalidations
  word_in [] b d = absurd (Memᴰ.not-nil d)
  word_in (x ∷ xs) b d = go (word_in xs b) (Memᴰ.cases_cons d)
    where
      go : (Memᴰ b (invalidations content xs) → b.word ≡ mark_word content) → (b ≡ mark_burn x) ⊎ Memᴰ b (invalidations content xs) → b.word ≡ mark_word content
      go ih (inl e) = ap (λ (z : Burn). z.word) e
      go ih (inr e) = ih e

  pub burn-in : (a : ℕ) (xs : List ℕ) → Memᴰ a xs → Memᴰ (mark_burn a) (invalidations content xs)
  unfolding invalidations
  burn-in a xs (Memᴰ.head {x = x} {xs = r} e) = Memᴰ.head (ap mark_burn e)
  burn-in a xs (Memᴰ.tail {x = x} {xs = r} d) = Memᴰ.tail (burn-in a r d)

  -- a word whose address is not in the list is as before
  pub invalidations-off : (m xs : List ℕ) (a : ℕ) → (Memᴰ a xs → ⊥) → nth (burn_all m (invalidations content xs)) a ≡ nth m a
  invalidations-off m xs a h = burn-off m (invalidations content xs) a (λ b d e. h (rw e (address-in xs b d)))

  pub invalidations-take-off : (m : List ℕ) (n : ℕ) (xs : List ℕ) (a : ℕ) → (Memᴰ a xs → ⊥) → nth (burn_all m (take n (invalidations content xs))) a ≡ nth m a
  invalidations-take-off m n xs a h = burn-take-off m n (invalidations content xs) a (λ b d e. h (rw e (address-in xs b d)))

  -- a mark of this content stays one
  mark-stays : (m xs : List ℕ) (a : ℕ) → a < length m → nth m a ≡ mark_word content → nth (burn_all m (invalidations content xs)) a ≡ mark_word content
  unfolding burn_all invalidations
  mark-stays m [] a l h = h
  mark-stays m (x ∷ xs) a l h = mark-stays (set m x (mark_word content)) xs a (rw length-set l) (by_bool (eqb a x)
      (λ d. rw (eqb-true a x d) (get_or-set_same m x (mark_word content) 0 (omega (arith, eqb-true a x d))))
      (λ d. get_or-set_other m x a (mark_word content) 0 (eqb-false a x d) ∙ h))

  -- a word of the medium whose address is in the list is a mark
  pub invalidations-on : (a : ℕ) (m xs : List ℕ) → a < length m → Memᴰ a xs → nth (burn_all m (invalidations content xs)) a ≡ mark_word content
  unfolding burn_all invalidations
  invalidations-on a m xs l (Memᴰ.head {x = x} {xs = r} e) =
      mark-stays (set m x (mark_word content)) r a (rw length-set l) (rw e (get_or-set_same m x (mark_word content) 0 (omega arith)))
  invalidations-on a m xs l (Memᴰ.tail {x = x} {xs = r} d) = invalidations-on a (set m x (mark_word content)) r (rw length-set l) d
