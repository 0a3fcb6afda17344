-- The first n of a list of burns, and the next word as the beam left it.
-- Assumes nothing.
use Prim.Native.Nat.{ℕ, zero, suc, ◌*◌, ◌≤◌, ◌<◌}
use mathlib.Core.Path.{◌≡◌, refl, sym, ap, ◌∙◌}
use mathlib.Core.Logic.{◌≢◌, ◌⊎◌, inl, inr}
use mathlib.Core.List.Memᴰ
use mathlib.Core.List.{List, [], ◌∷◌, ◌++◌, Memᴰ}
use native.Mathlib.Omega.{arith}
use lib.ListN.{length, set, take, drop, length-set}
use lib.Seq.{get_or-set_same, get_or-set_other, take-length}
use lib.Dec.{eqb}
use borrow.Author.Tests.{eqb-true, eqb-false}
use Rattle.limits.specs.Limits.{content_range}
use Rattle.lists.specs.Below.{nth}
use Rattle.lists.proofs.Tests.{by_bool}
use Rattle.words.specs.Word.{tag_of, content_of}
use Rattle.medium.specs.Word.{blank}
use Rattle.medium.specs.Burn.{Burn, burn_all}
use Rattle.medium.proofs.Burns.{length-burn_all}
use Rattle.history.specs.Beam.{Beam, dark, right, junk, junk_word, under_beam}

abbrev pub struck : List ℕ → List Burn → ℕ → Beam → List ℕ
struck m bs n beam = under_beam beam (drop n bs) (burn_all m (take n bs))

-- junk is of tag 3, and not blank
pub junk-word : (r : ℕ) → (3 * content_range ≤ junk_word r) × (junk_word r < blank)
unfolding junk_word
junk-word r = omega arith

-- and every word of tag 3 that is not blank is junk of some content, so that junk is any such word
pub junk-every : (w : ℕ) → tag_of w ≡ 3 → w ≢ blank → junk_word (content_of w) ≡ w
unfolding junk_word
junk-every w t f = omega (arith, t, f)

junk-blank : (r : ℕ) → junk_word r ≢ blank
junk-blank r e = omega (arith, junk-word r)

length-beam : (beam : Beam) (bs : List Burn) (m : List ℕ) → length (under_beam beam bs m) ≡ length m
unfolding under_beam
length-beam beam [] m = refl
length-beam dark (x ∷ bs) m = refl
length-beam right (x ∷ bs) m = length-set m x.address x.word
length-beam (junk r) (x ∷ bs) m = length-set m x.address (junk_word r)

pub length-struck : (m : List ℕ) (bs : List Burn) (n : ℕ) (beam : Beam) → length (struck m bs n beam) ≡ length m
length-struck m bs n beam = length-beam beam (drop n bs) (burn_all m (take n bs)) ∙ length-burn_all m (take n bs)

beam-dark : (bs : List Burn) (m : List ℕ) → under_beam dark bs m ≡ m
unfolding under_beam
beam-dark [] m = refl
beam-dark (x ∷ bs) m = refl

-- all burns
pub strike-whole : (m : List ℕ) (bs : List Burn) → struck m bs (length bs) dark ≡ burn_all m bs
strike-whole m bs = beam-dark (drop (length bs) bs) (burn_all m (take (length bs) bs)) ∙ ap (burn_all m) (take-length bs)

-- and none
pub strike-none : (m : List ℕ) (bs : List Burn) → struck m bs 0 dark ≡ m
unfolding burn_all
strike-none m bs = beam-dark bs m

-- a word that no burn names is as before
pub strike-off : (bs : List Burn) (m : List ℕ) (n : ℕ) (beam : Beam) (a : ℕ) → ((x : Burn) → Memᴰ x bs → a ≡ x.address → ⊥) → nth (struck m bs n beam) a ≡ nth m a
unfolding under_beam burn_all
strike-off [] m zero beam a h = refl
strike-off [] m (suc n) beam a h = refl
strike-off (x ∷ bs) m zero dark a h = refl
strike-off (x ∷ bs) m zero right a h = get_or-set_other m x.address a x.word 0 (h x (Memᴰ.head refl))
strike-off (x ∷ bs) m zero (junk r) a h = get_or-set_other m x.address a (junk_word r) 0 (h x (Memᴰ.head refl))
strike-off (x ∷ bs) m (suc n) beam a h =
    strike-off bs (set m x.address x.word) n beam a (λ y d. h y (Memᴰ.tail d))
    ∙ get_or-set_other m x.address a x.word 0 (h x (Memᴰ.head refl))

-- burns inside the medium, of words that are not blank
abbrev pub Burnable : List Burn → List ℕ → Type 0
Burnable bs m = (x : Burn) → Memᴰ x bs → (x.word ≢ blank) × (x.address < length m)

set-burned : (m : List ℕ) (a w : ℕ) → a < length m → w ≢ blank → nth (set m a w) a ≢ blank
set-burned m a w l f e = f (sym (get_or-set_same m a w 0 l) ∙ e)

set_keeps : (m : List ℕ) (x w a : ℕ) → a < length m → w ≢ blank → nth m a ≢ blank → nth (set m x w) a ≢ blank
set_keeps m x w a l g f = by_bool (eqb a x)
    (λ d. rw (eqb-true a x d) (set-burned m x w (omega (arith, eqb-true a x d)) g))
    (λ d e. f (sym (get_or-set_other m x a w 0 (eqb-false a x d)) ∙ e))

-- the burns that come after the first one
after_first : (x : Burn) (bs : List Burn) (m : List ℕ) (a w : ℕ) → Burnable (x ∷ bs) m → Burnable bs (set m a w)
after_first x bs m a w h y d = let i = h y (Memᴰ.tail d) in (i.0, rw length-set i.1)

-- a word that is not blank stays so
strike-keeps : (bs : List Burn) (m : List ℕ) (n : ℕ) (beam : Beam) → Burnable bs m → (a : ℕ) → a < length m → nth m a ≢ blank → nth (struck m bs n beam) a ≢ blank
unfolding under_beam burn_all
strike-keeps [] m zero beam h a l f = f
strike-keeps [] m (suc n) beam h a l f = f
strike-keeps (x ∷ bs) m zero dark h a l f = f
strike-keeps (x ∷ bs) m zero right h a l f = set_keeps m x.address x.word a l (h x (Memᴰ.head refl)).0 f
strike-keeps (x ∷ bs) m zero (junk r) h a l f = set_keeps m x.address (junk_word r) a l (junk-blank r) f
strike-keeps (x ∷ bs) m (suc n) beam h a l f =
    strike-keeps bs (set m x.address x.word) n beam (after_first x bs m x.address x.word h) a (rw length-set l)
    (set_keeps m x.address x.word a l (h x (Memᴰ.head refl)).0 f)

-- the first word burned is blank no more, whatever comes after
first-burned : (x : Burn) (bs : List Burn) (m : List ℕ) (n : ℕ) (beam : Beam) → Burnable (x ∷ bs) m → nth (struck (set m x.address x.word) bs n beam) x.address ≢ blank
first-burned x bs m n beam h =
    let i = h x (Memᴰ.head refl) in
    strike-keeps bs (set m x.address x.word) n beam (after_first x bs m x.address x.word h) x.address (rw length-set i.1)
    (set-burned m x.address x.word i.1 i.0)

-- nothing was burned, or some word is blank no more
pub strike-some : (bs : List Burn) (m : List ℕ) (n : ℕ) (beam : Beam) → Burnable bs m
    → (struck m bs n beam ≡ m) ⊎ ((x : Burn) × Memᴰ x bs × (nth (struck m bs n beam) x.address ≢ blank))
unfolding under_beam burn_all
strike-some [] m zero beam h = inl refl
strike-some [] m (suc n) beam h = inl refl
strike-some (x ∷ bs) m zero dark h = inl refl
strike-some (x ∷ bs) m zero right h =
    let i = h x (Memᴰ.head refl) in
    inr (x, Memᴰ.head refl, set-burned m x.address x.word i.1 i.0)
strike-some (x ∷ bs) m zero (junk r) h = inr (x, Memᴰ.head refl, set-burned m x.address (junk_word r) (h x (Memᴰ.head refl)).1 (junk-blank r))
strike-some (x ∷ bs) m (suc n) beam h = inr (x, Memᴰ.head refl, first-burned x bs m n beam h)

-- with no burn left over all are made
pub strike-all : (bs : List Burn) (m : List ℕ) (n : ℕ) (beam : Beam) → Burnable bs m → length bs ≤ n → (x : Burn) → Memᴰ x bs → nth (struck m bs n beam) x.address ≢ blank
unfolding under_beam burn_all
strike-all [] m n beam h k x d = absurd (Memᴰ.not-nil d)
strike-all (y ∷ bs) m zero beam h k x d = absurd (omega arith)
strike-all (y ∷ bs) m (suc n) beam h k x d = go (strike-all bs (set m y.address y.word) n beam (after_first y bs m y.address y.word h) (omega arith) x) (Memᴰ.cases_cons d)
  where
    go : (Memᴰ x bs → nth (struck (set m y.address y.word) bs n beam) x.address ≢ blank) → (x ≡ y) ⊎ Memᴰ x bs → nth (struck (set m y.address y.word) bs n beam) x.address ≢ blank
    go ih (inl q) = rw q (first-burned y bs m n beam h)
    go ih (inr q) = ih q

-- the word that is burned last is as it was, or all are burned: the whole use of the order of burns
pub strike-order : (bs : List Burn) (x : Burn) (m : List ℕ) (n : ℕ) (beam : Beam) → ((y : Burn) → Memᴰ y bs → x.address ≡ y.address → ⊥) → Burnable (bs ++ (x ∷ [])) m
    → (nth (struck m (bs ++ (x ∷ [])) n beam) x.address ≡ nth m x.address) ⊎ ((y : Burn) → Memᴰ y (bs ++ (x ∷ [])) → nth (struck m (bs ++ (x ∷ [])) n beam) y.address ≢ blank)
unfolding under_beam burn_all
strike-order [] x m zero dark f h = inl refl
strike-order [] x m zero right f h =
    let i = h x (Memᴰ.head refl) in
    inr (λ y d. rw (sole d) (set-burned m x.address x.word i.1 i.0))
  where
    sole : {y : Burn} → Memᴰ y (x ∷ []) → y ≡ x
    sole d = elim (Memᴰ.cases_cons d) [ inl q ↦ q | inr q ↦ absurd (Memᴰ.not-nil q) ]
strike-order [] x m zero (junk r) f h = inr (λ y d. rw (sole d) (set-burned m x.address (junk_word r) (h x (Memᴰ.head refl)).1 (junk-blank r)))
  where
    sole : {y : Burn} → Memᴰ y (x ∷ []) → y ≡ x
    sole d = elim (Memᴰ.cases_cons d) [ inl q ↦ q | inr q ↦ absurd (Memᴰ.not-nil q) ]
strike-order [] x m (suc n) beam f h = inr (λ y d. strike-all (x ∷ []) m (suc n) beam h (omega arith) y d)
strike-order (z ∷ bs) x m zero dark f h = inl refl
strike-order (z ∷ bs) x m zero right f h = inl (get_or-set_other m z.address x.address z.word 0 (f z (Memᴰ.head refl)))
strike-order (z ∷ bs) x m zero (junk r) f h = inl (get_or-set_other m z.address x.address (junk_word r) 0 (f z (Memᴰ.head refl)))
strike-order (z ∷ bs) x m (suc n) beam f h = go (strike-order bs x (set m z.address z.word) n beam (λ y d. f y (Memᴰ.tail d)) (after_first z (bs ++ (x ∷ [])) m z.address z.word h))
  where
    M : List ℕ
    M = struck (set m z.address z.word) (bs ++ (x ∷ [])) n beam

    all : ((y : Burn) → Memᴰ y (bs ++ (x ∷ [])) → nth M y.address ≢ blank) → (y : Burn) → (y ≡ z) ⊎ Memᴰ y (bs ++ (x ∷ [])) → nth M y.address ≢ blank
    all q y (inl e) = rw e (first-burned z (bs ++ (x ∷ [])) m n beam h)
    all q y (inr e) = q y e

    go : (nth M x.address ≡ nth (set m z.address z.word) x.address) ⊎ ((y : Burn) → Memᴰ y (bs ++ (x ∷ [])) → nth M y.address ≢ blank)
        → (nth M x.address ≡ nth m x.address) ⊎ ((y : Burn) → Memᴰ y (z ∷ (bs ++ (x ∷ []))) → nth M y.address ≢ blank)
    go (inl q) = inl (q ∙ get_or-set_other m z.address x.address z.word 0 (f z (Memᴰ.head refl)))
    go (inr q) = inr (λ y d. all q y (Memᴰ.cases_cons d))

-- within the first burns, or after them
pub strike-append : (xs ys : List Burn) (m : List ℕ) (n : ℕ) (beam : Beam)
    → (struck m (xs ++ ys) n beam ≡ struck m xs n beam) ⊎ ((r : ℕ) × (struck m (xs ++ ys) n beam ≡ struck (burn_all m xs) ys r beam))
unfolding under_beam burn_all
strike-append [] ys m n beam = inr (n, refl)
strike-append (x ∷ xs) ys m zero dark = inl refl
strike-append (x ∷ xs) ys m zero right = inl refl
strike-append (x ∷ xs) ys m zero (junk r) = inl refl
strike-append (x ∷ xs) ys m (suc n) beam = strike-append xs ys (set m x.address x.word) n beam
