-- The addresses that `marks_on` and `marks_over` list: the marks of an id's live entries, each of them and no other.
-- Assumes nothing.
use Prim.Native.Nat.{ℕ, zero, suc, ◌≤◌, ◌<◌}
use mathlib.Core.Path.{◌≡◌, refl, sym, ap, ◌∙◌}
use mathlib.Core.Logic.{◌⊎◌, inl, inr}
use mathlib.Core.Bool.{Bool, true, false, cond}
use mathlib.Core.List.Memᴰ
use mathlib.Core.List.{List, [], ◌∷◌, ◌++◌, map, map-append, append-nil, append_assoc, Memᴰ}
use native.Mathlib.Omega.{arith}
use lib.ListN.{length, length-map}
use lib.Dec.{eqb}
use borrow.Author.Tests.{eqb-true, eqb-false}
use Rattle.lists.specs.Below.{nth, upward}
use Rattle.lists.proofs.Tests.{by_bool}
use Rattle.lists.proofs.Below.{upward-in, upward-out, upward-cong, upward-none, upward-last, length-upward, count_below-le}
use Rattle.medium.specs.Word.{blank}
use Rattle.medium.specs.Entry.{mark_at, live}
use Rattle.medium.specs.Burn.{marks_on, marks_over}
use Rattle.medium.proofs.Places.{entry-apart}
use Rattle.medium.proofs.Entries.{bears-mark, live-used, live-bears, SameEntry, live-cong}

-- an address is the mark of an id's live entry, on one of the servers below n that pass
pub record MarkOf (capacity : ℕ) (used : ℕ → ℕ) (m : List ℕ) (id : ℕ) (p : ℕ → Bool) (n a : ℕ) : Type 0 where
  pub server : ℕ
  pub entry : ℕ
  pub below : server < n
  pub passes : p server ≡ true
  pub is_live : live capacity (used server) m id server entry ≡ true
  pub is : a ≡ mark_at capacity server entry

-- an address is the last of a list, and is nowhere else in it
pub record Final (l : List ℕ) (a : ℕ) : Type 0 where
  pub first : List ℕ
  pub split : l ≡ first ++ (a ∷ [])
  pub apart : Memᴰ a first → ⊥

false-unless : (b : Bool) → (b ≡ true → ⊥) → b ≡ false
false-unless true f = absurd (f refl)
false-unless false f = refl

module _ (capacity : ℕ) (used : ℕ → ℕ) (m : List ℕ) (id : ℕ) (p : ℕ → Bool) where
  -- the lists on one server and over n
  abbrev on_this : ℕ → List ℕ
  on_this k = marks_on capacity (used k) m id k

  abbrev over_servers : ℕ → List ℕ
  over_servers n = marks_over capacity used m id p n

  on_out : (n k a : ℕ) → k < n → p k ≡ true → Memᴰ a (on_this k) → MarkOf capacity used m id p n a
  unfolding marks_on
  on_out n k a l q d =
      let i = Memᴰ.of_map (mark_at capacity k) (upward (live capacity (used k) m id k) (used k)) d in
      let o = upward-out (live capacity (used k) m id k) (used k) i.0 i.1 in
      record { server = k; entry = i.0; below = l; passes = q; is_live = o.1; is = sym i.2 }

  on_in : (k j : ℕ) → live capacity (used k) m id k j ≡ true → Memᴰ (mark_at capacity k j) (on_this k)
  unfolding marks_on
  on_in k j e = Memᴰ.map (mark_at capacity k) (upward-in (live capacity (used k) m id k) (used k) j (live-used capacity (used k) m id k j e) e)

  pub marks-out : (n a : ℕ) → Memᴰ a (marks_over capacity used m id p n) → MarkOf capacity used m id p n a
  unfolding marks_over
  marks-out zero a d = absurd (Memᴰ.not-nil d)
  marks-out (suc n) a d = go (marks-out n a) (Memᴰ.append_cases (over_servers n) d)
    where
      go : (Memᴰ a (over_servers n) → MarkOf capacity used m id p n a)
          → Memᴰ a (over_servers n) ⊎ Memᴰ a (cond (p n) (on_this n) [])
          → MarkOf capacity used m id p (suc n) a
      go ih (inl x) =
          let i = ih x in
          record { server = i.server; entry = i.entry; below = omega (arith, i.below); passes = i.passes; is_live = i.is_live; is = i.is }
      go ih (inr x) = by_bool (p n)
          (λ e. on_out (suc n) n a (omega arith) e (rw e at x))
          (λ e. absurd (Memᴰ.not-nil {a = a} (rw e at x)))

  pub marks-in : (n k j : ℕ) → k < n → p k ≡ true → live capacity (used k) m id k j ≡ true → Memᴰ (mark_at capacity k j) (marks_over capacity used m id p n)
  unfolding marks_over
  marks-in zero k j l q e = absurd (omega arith)
  marks-in (suc n) k j l q e = by_bool (eqb k n)
      (λ d.
      let s = eqb-true k n d in
      let o : p n ≡ true = rw s at q in
      Memᴰ.append_right (over_servers n) {t = cond (p n) (on_this n) []} (rw (o, ← s) (on_in k j e)))
      (λ d. Memᴰ.append_left {s = over_servers n} (cond (p n) (on_this n) []) (marks-in n k j (omega (arith, eqb-false k n d)) q e))

  -- each of them is blank
  pub marks-blank : (n a : ℕ) → Memᴰ a (marks_over capacity used m id p n) → nth m a ≡ blank
  marks-blank n a d =
      let i = marks-out n a d in
      ap (nth m) i.is
      ∙ bears-mark capacity m id i.server i.entry (live-bears capacity (used i.server) m id i.server i.entry i.is_live)

  -- entry j of server k is the highest of those that are listed: its mark comes last
  module _ (k j : ℕ) (fits : (i : ℕ) → used i ≤ capacity) (is_live : live capacity (used k) m id k j ≡ true) where
    abbrev earlier_marks : List ℕ
    earlier_marks = marks_over capacity used m id p k ++ map (mark_at capacity k) (upward (live capacity (used k) m id k) j)

    inside : j < capacity
    inside = omega (arith, live-used capacity (used k) m id k j is_live, fits k)

    on-last : ((r : ℕ) → live capacity (used k) m id k r ≡ true → r ≤ j) → on_this k ≡ map (mark_at capacity k) (upward (live capacity (used k) m id k) j) ++ (mark_at capacity k j ∷ [])
    unfolding marks_on
    on-last h = rw (upward-last (live capacity (used k) m id k) (used k) j (live-used capacity (used k) m id k j is_live) is_live (λ r a b. false-unless (live capacity (used k) m id k r) (λ e. omega (arith, h r e))), map-append)

    over_last : (n : ℕ) → k < n → p k ≡ true → ((i r : ℕ) → i < n → p i ≡ true → live capacity (used i) m id i r ≡ true → (i ≤ k) × (i ≡ k → r ≤ j))
        → marks_over capacity used m id p n ≡ earlier_marks ++ (mark_at capacity k j ∷ [])
    unfolding marks_over marks_on
    over_last zero l q h = absurd (omega arith)
    over_last (suc n) l q h = by_bool (eqb k n)
        (λ d. rw (← (eqb-true k n d), q, on-last (λ r e. (h k r l q e).1 refl), append_assoc))
        (λ d.
        let none : cond (p n) (on_this n) [] ≡ [] = above n (eqb-false k n d) (λ o r e. (h n r (omega arith) o e).0) l in
        rw (none, append-nil) (over_last n (omega (arith, eqb-false k n d)) q (λ i r a. h i r (omega arith))))
      where
        above : (n : ℕ) → (k ≡ n → ⊥) → (p n ≡ true → (r : ℕ) → live capacity (used n) m id n r ≡ true → n ≤ k) → k < suc n → cond (p n) (on_this n) [] ≡ []
        above n f g i = by_bool (p n)
            (λ o. rw (o, upward-none (live capacity (used n) m id n) (used n) (λ r a. false-unless (live capacity (used n) m id n r) (λ e. omega (arith, f, g o r e)))))
            (λ o. rw o)

    not_earlier : Memᴰ (mark_at capacity k j) earlier_marks → ⊥
    not_earlier d = go (Memᴰ.append_cases (marks_over capacity used m id p k) d)
      where
        go : Memᴰ (mark_at capacity k j) (marks_over capacity used m id p k) ⊎ Memᴰ (mark_at capacity k j) (map (mark_at capacity k) (upward (live capacity (used k) m id k) j)) → ⊥
        go (inl x) =
            let i = marks-out k (mark_at capacity k j) x in
            let u = live-used capacity (used i.server) m id i.server i.entry i.is_live in
            let e = entry-apart capacity k j 2 i.server i.entry 2 inside (omega (arith, fits i.server)) (omega arith) (omega arith) i.is in
            omega (arith, i.below, e.0)
        go (inr x) =
            let i = Memᴰ.of_map (mark_at capacity k) (upward (live capacity (used k) m id k) j) x in
            let o = upward-out (live capacity (used k) m id k) j i.0 i.1 in
            let e = entry-apart capacity k j 2 k i.0 2 inside (omega (arith, o.0, inside)) (omega arith) (omega arith) (sym i.2) in
            omega (arith, o.0, e.1)

    pub marks-last : (n : ℕ) → k < n → p k ≡ true → ((i r : ℕ) → i < n → p i ≡ true → live capacity (used i) m id i r ≡ true → (i ≤ k) × (i ≡ k → r ≤ j))
        → Final (marks_over capacity used m id p n) (mark_at capacity k j)
    marks-last n l q h = record { first = earlier_marks; split = over_last n l q h; apart = not_earlier }

-- a server has no more of them than entries used
pub length-marks_on : (capacity used : ℕ) (m : List ℕ) (id k : ℕ) → length (marks_on capacity used m id k) ≤ used
unfolding marks_on
length-marks_on capacity used m id k = rw (length-map, length-upward) (count_below-le (live capacity used m id k) used)

-- media with the same id words and marks in the used entries have the same addresses
pub marks_on-cong : (capacity used : ℕ) (m m' : List ℕ) (id k : ℕ) → ((j : ℕ) → j < used → SameEntry capacity m m' k j)
    → marks_on capacity used m id k ≡ marks_on capacity used m' id k
unfolding marks_on
marks_on-cong capacity used m m' id k h =
    rw (upward-cong (live capacity used m id k) (live capacity used m' id k) used (λ j l. live-cong capacity used m m' id k j (h j l)))

pub marks_over-cong : (capacity : ℕ) (used used' : ℕ → ℕ) (m m' : List ℕ) (id : ℕ) (p p' : ℕ → Bool) (n : ℕ)
    → ((k : ℕ) → k < n → p k ≡ p' k)
    → ((k : ℕ) → k < n → used k ≡ used' k)
    → ((k j : ℕ) → k < n → j < used k → SameEntry capacity m m' k j)
    → marks_over capacity used m id p n ≡ marks_over capacity used' m' id p' n
unfolding marks_over
marks_over-cong capacity used used' m m' id p p' zero a b h = refl
marks_over-cong capacity used used' m m' id p p' (suc n) a b h =
    rw (
      marks_over-cong capacity used used' m m' id p p' n (λ k l. a k (omega arith)) (λ k l. b k (omega arith)) (λ k j l i. h k j (omega arith) i),
      a n (omega arith),
      marks_on-cong capacity (used n) m m' id n (λ j i. h n j (omega arith) i),
      b n (omega arith),
    )
