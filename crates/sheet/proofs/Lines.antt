-- Where the line that begins at a position of an input ends, and the lines after it.
-- Assumes nothing.
use Prim.Native.Nat.{ℕ, suc, ◌+◌, ◌-◌, ◌≤◌, ◌<◌}
use mathlib.Core.Path.{◌≡◌, refl, sym, ap, ◌∙◌}
use mathlib.Core.Bool.{not}
use mathlib.Core.List.{List, ◌∷◌}
use native.Mathlib.Omega.{arith}
use Rattle.std.proofs.Common.{min, length-take}
use Rattle.std.specs.List.{position_or_len}
use Rattle.std.proofs.lemmas.List.Sums.{prefix_len-drop_yes, prefix_len-drop_no, prefix_len-drop_all}
use Rattle.std.proofs.lemmas.List.Folds.{length-prefix_len}
use lib.ListN.{length, take, drop, length-drop}
use lib.Seq.{drop-drop}
use borrow.Author.Tests.{eq-eqb, ne_eqb}
use Rattle.lists.specs.Below.{nth}
use Rattle.sheet.specs.Sheet.{lines_of}
use Rattle.sheet.proofs.Sheets.{is_lf, line-first}

-- at the first LF from there on, or at the end of the input
abbrev pub end_of : List ℕ → ℕ → ℕ
end_of s from = from + position_or_len is_lf (drop from s)

module _ (s : List ℕ) where
  pub end-past : (end : ℕ) → length s ≤ end → end_of s end ≡ end
  end-past end h = omega (arith, prefix_len-drop_all (λ b. not (is_lf b)) s end h)

  pub end-here : (end : ℕ) → end < length s → nth s end ≡ 10 → end_of s end ≡ end
  end-here end h d = omega (arith, prefix_len-drop_no (λ b. not (is_lf b)) s end 0 h (ap not (eq-eqb (nth s end) 10 d)))

  pub end_on : (end : ℕ) → end < length s → (nth s end ≡ 10 → ⊥) → end_of s end ≡ end_of s (end + 1)
  end_on end h d = omega (arith, prefix_len-drop_yes (λ b. not (is_lf b)) s end 0 h (ap not (ne_eqb (nth s end) 10 d)))

  module _ (from : ℕ) (l : from < length s) where
    pub end-bounds : (end : ℕ) → end ≡ end_of s from → (from ≤ end) × (end ≤ length s)
    end-bounds end e =
        let n = position_or_len is_lf (drop from s) in
        let inside : min n (length (drop from s)) ≡ n = sym (length-take n (drop from s)) ∙ length-prefix_len (λ b. not (is_lf b)) (drop from s) in
        (omega (arith, e), omega (arith, e, inside, length-drop from s))

    -- the line that begins at a position, and the lines after it
    pub next-line : lines_of (drop from s) ≡ take (end_of s from - from) (drop from s) ∷ lines_of (drop (end_of s from + 1) s)
    next-line =
        let n = position_or_len is_lf (drop from s) in
        let some : 0 < length (drop from s) = omega (arith, length-drop from s) in
        let front : end_of s from - from ≡ n = omega arith in
        let back : drop (end_of s from + 1) s ≡ drop (suc n) (drop from s) = ap (λ (k : ℕ). drop k s) (omega arith) ∙ sym (drop-drop (suc n) from s) in
        rw (front, back) (line-first (drop from s) n some refl)
