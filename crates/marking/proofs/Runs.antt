-- The entries of a run that bear an id: how many they are, where their marks stand, a run after another, and a server's as one run.
-- Assumes nothing.
use Prim.Native.Nat.{ℕ, zero, suc, ◌+◌, ◌*◌, ◌≤◌, ◌<◌}
use mathlib.Core.Path.{◌≡◌, refl, sym}
use mathlib.Core.Logic.{◌⊎◌, inl, inr}
use mathlib.Core.Bool.{Bool, true, false, cond}
use mathlib.Core.List.Memᴰ
use mathlib.Core.List.{List, [], ◌∷◌, ◌++◌, append-nil, append_assoc, map, map-append, Memᴰ}
use native.Mathlib.Nat.{add-zero, add-suc}
use native.Mathlib.Omega.{arith}
use lib.ListN.{length, length-append}
use Rattle.lists.specs.Below.{nth, upward}
use Rattle.lists.proofs.Tests.{by_bool}
use Rattle.medium.specs.Entry.{entry_at, mark_at, bears_at, live, Inside}
use Rattle.medium.specs.Burn.{marks_on}
use Rattle.medium.proofs.Places.{entry-on, entries-inside}
use Rattle.medium.proofs.Entries.{live_below}
use Rattle.marking.specs.Run.{marks_in}

-- the mark of an entry if it bears the id
abbrev pub mark_of : List ℕ → ℕ → ℕ → List ℕ
mark_of m id at = cond (bears_at m id at) ((at + 2) ∷ []) []

module _ (m : List ℕ) (id from : ℕ) where
  pub length-marks_in : (n : ℕ) → length (marks_in m id from n) ≤ n
  unfolding marks_in
  length-marks_in zero = omega arith
  length-marks_in (suc n) =
      let one : length (mark_of m id (from + 3 * n)) ≤ 1 = by_bool (bears_at m id (from + 3 * n)) (λ e. rw e (omega arith)) (λ e. rw e (omega arith)) in
      rw length-append (omega (arith, length-marks_in n))

  -- they stand inside the run
  pub marks_in-below : (n a : ℕ) → Memᴰ a (marks_in m id from n) → a < from + 3 * n
  unfolding marks_in
  marks_in-below zero a d = absurd (Memᴰ.not-nil d)
  marks_in-below (suc n) a d = go (marks_in-below n a) (Memᴰ.append_cases (marks_in m id from n) d)
    where
      here : (b : Bool) → Memᴰ a (cond b ((from + 3 * n + 2) ∷ []) []) → a < from + 3 * suc n
      here false x = absurd (Memᴰ.not-nil x)
      here true x = last (Memᴰ.cases_cons x)
        where
          last : (a ≡ from + 3 * n + 2) ⊎ Memᴰ a [] → a < from + 3 * suc n
          last (inl e) = omega arith
          last (inr y) = absurd (Memᴰ.not-nil y)

      go : (Memᴰ a (marks_in m id from n) → a < from + 3 * n) → Memᴰ a (marks_in m id from n) ⊎ Memᴰ a (mark_of m id (from + 3 * n)) → a < from + 3 * suc n
      go ih (inl x) = omega (arith, ih x)
      go ih (inr x) = here (bears_at m id (from + 3 * n)) x

  -- a run after another
  pub marks_in-append : (n d : ℕ) → marks_in m id from (n + d) ≡ marks_in m id from n ++ marks_in m id (from + 3 * n) d
  unfolding marks_in
  marks_in-append n zero = rw add-zero (sym (append-nil _))
  marks_in-append n (suc d) =
      let e : from + 3 * (n + d) ≡ from + 3 * n + 3 * d = omega arith in
      rw (add-suc, marks_in-append n d, e, append_assoc)

  -- where no entry bears the id there is none
  pub marks_in-none : (n : ℕ) → ((i : ℕ) → i < n → bears_at m id (from + 3 * i) ≡ false) → marks_in m id from n ≡ []
  unfolding marks_in
  marks_in-none zero h = refl
  marks_in-none (suc n) h = rw (h n (omega arith), marks_in-none n (λ i l. h i (omega arith)))

-- media with the same words from the run's first on have the same
pub marks_in-cong : (m m' : List ℕ) (id from n : ℕ) → ((a : ℕ) → from ≤ a → nth m a ≡ nth m' a) → marks_in m id from n ≡ marks_in m' id from n
unfolding marks_in bears_at
marks_in-cong m m' id from zero h = refl
marks_in-cong m m' id from (suc n) h = rw (marks_in-cong m m' id from n h, h (from + 3 * n) (omega arith), h (from + 3 * n + 2) (omega arith))

-- a server's used entries lie inside the medium
pub server_inside : (capacity used : ℕ) (m : List ℕ) (k : ℕ) {first : ℕ} → first ≡ entry_at capacity k 0 → Inside capacity k m → used ≤ capacity → first + 3 * used ≤ length m
server_inside capacity used m k place i l = omega (arith, place, entries-inside capacity k 0 used m i (omega arith))

-- and are one run
module _ (capacity used : ℕ) (m : List ℕ) (id k : ℕ) where
  pub server-below : (n : ℕ) → n ≤ used → map (mark_at capacity k) (upward (live capacity used m id k) n) ≡ marks_in m id (entry_at capacity k 0) n
  unfolding marks_in upward
  server-below zero l = refl
  server-below (suc n) l =
      let place : entry_at capacity k 0 + 3 * n ≡ entry_at capacity k n = omega (arith, entry-on capacity k 0 n (omega arith)) in
      rw (map-append, server-below n (omega arith), live_below capacity used m id k n (omega arith), place) (here (bears_at m id (entry_at capacity k n)))
    where
      here : (b : Bool) → marks_in m id (entry_at capacity k 0) n ++ map (mark_at capacity k) (cond b (n ∷ []) []) ≡ marks_in m id (entry_at capacity k 0) n ++ cond b ((entry_at capacity k n + 2) ∷ []) []
      here true = refl
      here false = refl

  pub server-run : marks_on capacity used m id k ≡ marks_in m id (entry_at capacity k 0) used
  unfolding marks_on
  server-run = server-below used (omega arith)
