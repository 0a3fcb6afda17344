-- The two words of a new entry burned, or the first of them, or none, before a write invalidates: the marks still to burn are those of
-- the medium as lent.
-- Assumes nothing.
use Prim.Native.Nat.{ℕ, ◌+◌, ◌-◌, ◌≤◌, ◌<◌}
use mathlib.Core.Path.{◌≡◌, refl, sym, ap, ◌∙◌}
use mathlib.Core.Logic.{⊎_elim}
use mathlib.Core.Bool.{Bool, true}
use mathlib.Core.List.Memᴰ
use mathlib.Core.List.{List, [], ◌∷◌}
use native.Mathlib.Nat.{add-zero}
use native.Mathlib.Omega.{arith}
use lib.ListN.{length, set, take}
use Rattle.lists.specs.Below.{nth}
use Rattle.medium.specs.Word.{id_word, value_word, replaced}
use Rattle.medium.specs.Entry.{entry_at}
use Rattle.medium.specs.Burn.{Burn, burn_all, marks_over, invalidations}
use Rattle.medium.proofs.Places.{entry-apart}
use Rattle.medium.proofs.Burns.{burn-take, burn-one, burn-none, burn-take-off, length-invalidations}
use Rattle.medium.proofs.Marks.{marks_over-cong}
use Rattle.table.specs.declared.Table.{Table}
use Rattle.table.specs.Parts.{used_of}
use Rattle.table.specs.Sound.{sound}
use Rattle.table.proofs.Soundness.{sound-facts}
use Rattle.planning.specs.WriteRows.{target}
use Rattle.writing.specs.Writing.{write_marks, write_burns}

-- the new entry's first word, on the write server
abbrev pub new_at : Table → ℕ → ℕ
new_at t id = let k = target t id in entry_at t.capacity k (used_of t k)

-- its value word and its id word, of an entry that begins at an address
abbrev pub new_burns : ℕ → ℕ → ℕ → List Burn
new_burns at id value = record { address = at + 1; word = value_word value } ∷ record { address = at; word = id_word id } ∷ []

-- as many of the two as the burns allow: the value word, then the id word
module _ (m : List ℕ) (at id value n : ℕ) where
  abbrev value_burn : Burn
  value_burn = record { address = at + 1; word = value_word value }

  abbrev id_burn : Burn
  id_burn = record { address = at; word = id_word id }

  pub value-burned : 0 < n → set m (at + 1) (value_word value) ≡ burn_all m (take n (value_burn ∷ []))
  value-burned l = sym (burn-one m n value_burn l)

  pub value-left : n ≤ 0 → m ≡ burn_all m (take n (value_burn ∷ []))
  value-left l = sym (burn-none m n (value_burn ∷ []) l)

  module _ {m' : List ℕ} (e : m' ≡ burn_all m (take n (value_burn ∷ []))) where
    both : burn_all m (take n (new_burns at id value)) ≡ burn_all m' (take (n - 1) (id_burn ∷ []))
    both = burn-take m n (value_burn ∷ []) (id_burn ∷ []) ∙ ap (λ (w : List ℕ). burn_all w (take (n - 1) (id_burn ∷ []))) (sym e)

    pub id-burned : 1 < n → set m' at (id_word id) ≡ burn_all m (take n (new_burns at id value))
    id-burned l = sym (both ∙ burn-one m' (n - 1) id_burn (omega arith))

    pub id_left : n ≤ 1 → m' ≡ burn_all m (take n (new_burns at id value))
    id_left l = sym (both ∙ burn-none m' (n - 1) (id_burn ∷ []) (omega arith))

-- the medium with as many of the two as the burns allow
abbrev pub entered : Table → List ℕ → ℕ → ℕ → ℕ → List ℕ
entered t m id value n = burn_all m (take n (new_burns (new_at t id) id value))

module _ (t : Table) (m : List ℕ) (id value : ℕ) where
  -- the burns of a write are these two words, then its invalidations
  pub entered-burns : (n : ℕ) → burn_all m (take n (write_burns t m id value)) ≡ burn_all (entered t m id value n) (take (n - 2) (invalidations replaced (write_marks t m id)))
  unfolding write_burns
  entered-burns n = burn-take m n (new_burns (new_at t id) id value) (invalidations replaced (write_marks t m id))

  pub burns-length : length (write_burns t m id value) ≡ length (write_marks t m id) + 2
  unfolding write_burns
  burns-length = omega (arith, length-invalidations replaced (write_marks t m id))

  module _ (n : ℕ) (h : sound t ≡ true) (free : used_of t (target t id) < t.capacity) where
    -- the new entry is none of the used ones
    apart : (k j q c : ℕ) → k < t.count → j < used_of t k → q < 3 → c < 3
        → entry_at t.capacity k j + q ≡ new_at t id + c → ⊥
    apart k j q c l i a b e =
        let d = entry-apart t.capacity k j q (target t id) (used_of t (target t id)) c (omega (arith, ((sound-facts t h).server k l).fits)) free a b e in
        omega (arith, d.1, ap (used_of t) d.0)

    word_kept : (k j q : ℕ) → k < t.count → j < used_of t k → q < 3
        → nth (entered t m id value n) (entry_at t.capacity k j + q) ≡ nth m (entry_at t.capacity k j + q)
    word_kept k j q l i a = burn-take-off m n (new_burns (new_at t id) id value) (entry_at t.capacity k j + q) (λ b d e. ⊎_elim
        (λ w. apart k j q 1 l i a (omega arith) (e ∙ ap (λ (x : Burn). x.address) w))
        (λ w. apart k j q 0 l i a (omega arith) (e ∙ ap (λ (x : Burn). x.address) (Memᴰ.eq_of_singleton w) ∙ sym (add-zero (new_at t id))))
        (Memᴰ.cases_cons d))

    pub entered-marks : (p : ℕ → Bool) (c : ℕ) → c ≤ t.count
        → marks_over t.capacity (used_of t) (entered t m id value n) id p c ≡ marks_over t.capacity (used_of t) m id p c
    entered-marks p c b =
        marks_over-cong t.capacity (used_of t) (used_of t) (entered t m id value n) m id p p c (λ k l. refl) (λ k l. refl)
        (λ k j l i. record {
          id_same = rw add-zero at (word_kept k j 0 (omega arith) i (omega arith));
          mark_same = word_kept k j 2 (omega arith) i (omega arith);
        })
