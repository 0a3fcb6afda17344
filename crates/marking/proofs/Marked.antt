-- Marking a run of entries from the lowest up: what holds once the first j are done.
-- Assumes nothing.
use Prim.Native.Nat.{ℕ, ◌+◌, ◌-◌, ◌*◌, ◌≤◌, ◌<◌}
use mathlib.Core.Path.{◌≡◌, refl, sym, ap, ◌∙◌}
use mathlib.Core.Bool.{Bool, true, false}
use mathlib.Core.List.{List, [], ◌∷◌, ◌++◌}
use native.Mathlib.Nat.{add-zero}
use native.Mathlib.Omega.{arith}
use lib.ListN.{length, set, take, length-append}
use lib.Seq.{take-nil}
use Rattle.lists.specs.Below.{nth}
use Rattle.medium.specs.Word.{mark_word}
use Rattle.medium.specs.Entry.{bears_at}
use Rattle.medium.specs.Burn.{burn_all, invalidations}
use Rattle.medium.proofs.Burns.{length-burn_all, burn-take, burn-one, burn-none, length-invalidations, invalidations-append, invalidations-take-off}
use Rattle.marking.specs.Run.{marks_in}
use Rattle.marking.proofs.Runs.{length-marks_in, marks_in-below, marks_in-append, marks_in-none, marks_in-cong}

-- of the medium m₀ the first j entries from an address on are done: m is the medium, n the number of marks with those before, of
-- which as many as the burns are burned. The words after these entries are as lent
pub record Marked (m₀ : List ℕ) (id from content burns before j : ℕ) (m : List ℕ) (n : ℕ) : Type 0 where
  pub words : m ≡ burn_all m₀ (take (burns - before) (invalidations content (marks_in m₀ id from j)))
  pub count : n ≡ before + length (marks_in m₀ id from j)
  pub same : (a : ℕ) → from + 3 * j ≤ a → nth m a ≡ nth m₀ a
  pub long : length m ≡ length m₀

pub none-marked : (m₀ : List ℕ) (id from content burns before : ℕ) → Marked m₀ id from content burns before 0 m₀ before
unfolding marks_in invalidations burn_all
none-marked m₀ id from content burns before = record { words = rw take-nil; count = omega arith; same = λ a l. refl; long = refl }

module _ {m₀ : List ℕ} {id from content burns before j : ℕ} {m : List ℕ} {n : ℕ} (done : Marked m₀ id from content burns before j m n) where
  -- no more are counted than entries done
  pub few : n ≤ before + j
  few = omega (arith, done.count, length-marks_in m₀ id from j)

  -- d entries more, which begin at `at`
  module _ (d : ℕ) {at : ℕ} (place : at ≡ from + 3 * j) where
    abbrev next_marks : List ℕ
    next_marks = marks_in m id at d

    next : marks_in m₀ id from (j + d) ≡ marks_in m₀ id from j ++ marks_in m id at d
    next = marks_in-append m₀ id from j d ∙ ap (λ (l : List ℕ). marks_in m₀ id from j ++ l) (ap (λ (a : ℕ). marks_in m₀ id a d) (sym place) ∙ sym (marks_in-cong m m₀ id at d (λ a l. done.same a (omega arith))))

    pub more-marked : {m' : List ℕ} {n' : ℕ} → n' ≡ n + length (marks_in m id at d) → m' ≡ burn_all m (take (burns - n) (invalidations content (marks_in m id at d)))
        → Marked m₀ id from content burns before (j + d) m' n'
    more-marked c w =
        let left : burns - before - length (invalidations content (marks_in m₀ id from j)) ≡ burns - n = omega (arith, done.count, length-invalidations content (marks_in m₀ id from j)) in
        record {
          words = w ∙ sym (rw (next, invalidations-append, burn-take, left, ← done.words));
          count = rw (next, length-append) (omega (arith, done.count));
          same = λ a l.
              ap (λ (x : List ℕ). nth x a) w
              ∙ invalidations-take-off content m (burns - n) next_marks a (λ x. omega (arith, marks_in-below m id at d a x))
              ∙ done.same a (omega arith);
          long = ap length w ∙ length-burn_all m (take (burns - n) (invalidations content next_marks)) ∙ done.long;
        }

    -- none of them bears the id
    pub none_more : {m' : List ℕ} {n' : ℕ} → ((i : ℕ) → i < d → bears_at m id (at + 3 * i) ≡ false) → n' ≡ n → m' ≡ m → Marked m₀ id from content burns before (j + d) m' n'
    unfolding burn_all invalidations
    none_more h c w =
        let e = marks_in-none m id at d h in
        more-marked (rw e (omega (arith, c))) (rw (e, take-nil) w)

  -- one entry more
  module _ {at : ℕ} (place : at ≡ from + 3 * j) {borne : Bool} (test : borne ≡ bears_at m id at) where
    pub one-not : {m' : List ℕ} {n' : ℕ} → borne ≡ false → n' ≡ n → m' ≡ m → Marked m₀ id from content burns before (j + 1) m' n'
    one-not e c w = none_more 1 place (λ i l. let z : at + 3 * i ≡ at = omega arith in rw z (sym test ∙ e)) c w

    -- it bears the id, and is marked where burns are left
    here : borne ≡ true → marks_in m id at 1 ≡ (at + 2) ∷ []
    unfolding marks_in
    here e = rw (add-zero, sym test ∙ e)

    pub one-marked : {m' : List ℕ} {n' : ℕ} → borne ≡ true → n' ≡ n + 1 → n < burns → m' ≡ set m (at + 2) (mark_word content)
        → Marked m₀ id from content burns before (j + 1) m' n'
    unfolding invalidations
    one-marked e c l w = more-marked 1 place (rw (here e) c) (rw (here e) (w ∙ sym (burn-one m (burns - n) _ (omega arith))))

    pub one_left : {m' : List ℕ} {n' : ℕ} → borne ≡ true → n' ≡ n + 1 → burns ≤ n → m' ≡ m → Marked m₀ id from content burns before (j + 1) m' n'
    one_left e c l w = more-marked 1 place (rw (here e) c) (w ∙ sym (burn-none m (burns - n) _ (omega arith)))
