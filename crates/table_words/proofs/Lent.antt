-- Laws of a table lent as words: an array read out of them, and the table stored in front of them.
-- Assumes nothing.
use Prim.Native.Nat.{ℕ, ◌+◌, ◌≤◌}
use mathlib.Core.Path.{◌≡◌, refl, sym, ap, ◌∙◌}
use mathlib.Core.List.{List, [], ◌∷◌, ◌++◌, append_assoc}
use native.Mathlib.Omega.{arith}
use lib.ListN.{length, take, drop, set, length-append, length-take, length-drop, take-append-drop}
use lib.Seq.{take_all, take_at, take-take, get_or-take, drop-append-add, drop-drop, sets-eq, paste}
use Rattle.std.proofs.lemmas.List.{append-nil, length-take-le, drop-take, drop_all}
use Rattle.std.specs.Array.{IsFirstChunk}
use Rattle.table.specs.Parts.{table_by}
use borrow.Author.Tests.{le-ltb}
use Rattle.table.specs.declared.Table.{Table}
use Rattle.table.proofs.Soundness.{Arrays}
use Rattle.table_words.specs.Words.{capacity_offset, salt_offset, count_offset, weights_offset, used_offset, numerators_offset, denominators_offset, counters_offset, table_length, column_from, counters_from, table_from, words_of, with_table}

-- columns and counters have all their numbers
pub length-column : (words : List ℕ) (at : ℕ) → at + 256 ≤ length words → length (column_from words at) ≡ 256
length-column words at l = length-take 256 (drop at words) ∙ omega (arith, length-drop at words)

pub length-counters : (words : List ℕ) → table_length ≤ length words → length (counters_from words) ≡ 8
length-counters words l = length-take 8 (drop counters_offset words) ∙ omega (arith, length-drop counters_offset words)

-- a table lent as words has whole arrays
pub lent-arrays : (words : List ℕ) → table_length ≤ length words → Arrays (table_from words)
unfolding table_from
lent-arrays words l = record {
  weights = length-column words weights_offset (omega arith);
  used = length-column words used_offset (omega arith);
  numerators = length-column words numerators_offset (omega arith);
  denominators = length-column words denominators_offset (omega arith);
  counters = length-counters words l;
}

-- words of which the first n are a run x, and the rest are as lent
record Front (w x words : List ℕ) (n : ℕ) : Type 0 where
  long : length x ≡ n
  front : words ≡ x ++ drop n w

-- an array stored next
front-more : (w x words words' a : List ℕ) (n : ℕ) (size : ℕ) → Front w x words n → length a ≡ size → words' ≡ paste words n a (length a) → Front w (x ++ a) words' (n + size)
front-more w x words words' a n size f l e = record {
  long = length-append x a ∙ omega (arith, f.long);
  front =
      e
      ∙ rw (l, f.front, take_at x (drop n w) n f.long, take_all size a (omega arith), ← f.long, drop-append-add x (drop (length x) w) size, drop-drop size (length x) w);
}

-- the whole table
pub stored-table : (w : List ℕ) (t : Table) (w₁ w₂ w₃ w₄ w₅ : List ℕ) → table_length ≤ length w → Arrays t
    → w₁ ≡ paste (set (set (set w capacity_offset t.capacity) salt_offset t.salt) count_offset t.count) weights_offset t.weights (length t.weights)
    → w₂ ≡ paste w₁ used_offset t.used (length t.used) → w₃ ≡ paste w₂ numerators_offset t.numerators (length t.numerators)
    → w₄ ≡ paste w₃ denominators_offset t.denominators (length t.denominators) → w₅ ≡ paste w₄ counters_offset t.counters (length t.counters)
    → w₅ ≡ with_table w t
unfolding with_table words_of
stored-table w t w₁ w₂ w₃ w₄ w₅ l a e₁ e₂ e₃ e₄ e₅ =
    let words : List ℕ = t.capacity ∷ t.salt ∷ t.count ∷ [] in
    let f₀ : Front w words (set (set (set w capacity_offset t.capacity) salt_offset t.salt) count_offset t.count) weights_offset = record { long = refl; front = sets-eq words w 0 (omega arith) } in
    let f₁ = front-more w words _ w₁ t.weights weights_offset 256 f₀ a.weights e₁ in
    let f₂ = front-more w _ w₁ w₂ t.used used_offset 256 f₁ a.used e₂ in
    let f₃ = front-more w _ w₂ w₃ t.numerators numerators_offset 256 f₂ a.numerators e₃ in
    let f₄ = front-more w _ w₃ w₄ t.denominators denominators_offset 256 f₃ a.denominators e₄ in
    let f₅ = front-more w _ w₄ w₅ t.counters counters_offset 8 f₄ a.counters e₅ in
    rw (le-ltb (length w) table_length l) f₅.front

-- a table stored is the table that is lent next
skip : (a rest : List ℕ) (n : ℕ) → length a ≡ 256 → drop (256 + n) (a ++ rest) ≡ drop n rest
skip a rest n l = ap (λ (k : ℕ). drop (k + n) (a ++ rest)) (sym l) ∙ drop-append-add a rest n

pub stored-lent : (words : List ℕ) (t : Table) → table_length ≤ length words → Arrays t → table_from (with_table words t) ≡ t
unfolding table_from with_table words_of
stored-lent words t l a =
    let r₄ : List ℕ = t.counters ++ drop table_length words in
    let r₃ : List ℕ = t.denominators ++ r₄ in
    let r₂ : List ℕ = t.numerators ++ r₃ in
    let r₁ : List ℕ = t.used ++ r₂ in
    let flat : with_table words t ≡ t.capacity ∷ t.salt ∷ t.count ∷ (t.weights ++ r₁) = rw (le-ltb (length words) table_length l) (simp append_assoc) in
    rw flat (rw (
      skip t.weights r₁ 0 a.weights,
      skip t.weights r₁ 256 a.weights,
      skip t.weights r₁ 512 a.weights,
      skip t.weights r₁ 768 a.weights,
      skip t.used r₂ 0 a.used,
      skip t.used r₂ 256 a.used,
      skip t.used r₂ 512 a.used,
      skip t.numerators r₃ 0 a.numerators,
      skip t.numerators r₃ 256 a.numerators,
      skip t.denominators r₄ 0 a.denominators,
      take_at t.weights r₁ 256 a.weights,
      take_at t.used r₂ 256 a.used,
      take_at t.numerators r₃ 256 a.numerators,
      take_at t.denominators r₄ 256 a.denominators,
      take_at t.counters (drop table_length words) 8 a.counters,
    ))

-- a run of words and its front, which has the words of a table
array-front : (words : List ℕ) (at n k : ℕ) → n ≤ k → take n (drop at (take (at + k) words)) ≡ take n (drop at words)
array-front words at n k l = ap (take n) (drop-take at k words) ∙ take-take n k (drop at words) l

module _ (words front : List ℕ) (is : IsFirstChunk words front table_length) where
  -- the table is lent in the front
  pub front-table : table_from front ≡ table_from words
  unfolding table_from
  front-table =
      let capacity = get_or-take table_length words capacity_offset 0 (omega arith) in
      let salt = get_or-take table_length words salt_offset 0 (omega arith) in
      let count = get_or-take table_length words count_offset 0 (omega arith) in
      let weights = array-front words weights_offset 256 1032 (omega arith) in
      let used = array-front words used_offset 256 776 (omega arith) in
      let numerators = array-front words numerators_offset 256 520 (omega arith) in
      let denominators = array-front words denominators_offset 256 264 (omega arith) in
      let counters = array-front words counters_offset 8 8 (omega arith) in
      ap table_from is.same
      ∙ (λ i. table_by (record { capacity = capacity i; salt = salt i; count = count i }) (weights i) (used i) (numerators i) (denominators i) (counters i))

  -- what stays there stays in the words
  pub front-kept : front ++ drop table_length words ≡ words
  front-kept = ap (λ (w : List ℕ). w ++ drop table_length words) is.same ∙ take-append-drop table_length words

  -- and what is stored there is stored in the words
  pub front-stored : (f : Table → Table) (front' : List ℕ) → front' ≡ with_table front (f (table_from front))
      → front' ++ drop table_length words ≡ with_table words (f (table_from words))
  unfolding with_table
  front-stored f front' stored =
      let long : length (take table_length words) ≡ table_length = length-take-le table_length words is.enough in
      let whole : table_length ≤ length (take table_length words) = omega (arith, long) in
      let none : drop table_length (take table_length words) ≡ [] = drop_all table_length (take table_length words) (omega (arith, long)) in
      rw (stored, front-table, is.same, le-ltb _ _ is.enough, le-ltb _ _ whole, none, append-nil (words_of (f (table_from words)))) refl
