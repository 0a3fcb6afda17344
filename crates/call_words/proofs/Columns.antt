-- The columns of a table lent as words are parts of the words, and to store one of them stores the table with it.
-- Assumes nothing.
use Prim.Native.Nat.{ℕ, suc, ◌+◌, ◌≤◌}
use mathlib.Core.Path.{◌≡◌, refl, sym, ap, ap₂, ◌∙◌}
use mathlib.Core.List.{List, [], ◌∷◌, ◌++◌, append_assoc}
use native.Mathlib.Omega.{arith}
use lib.ListN.{length, take, drop, take-append-drop}
use lib.Seq.{drop-drop, take-add}
use borrow.Author.Tests.{le-ltb}
use Rattle.lists.specs.Below.{nth}
use Rattle.table.specs.declared.Table.{Table}
use Rattle.table.specs.Parts.{with_counters}
use Rattle.table_words.specs.Words.{capacity_offset, salt_offset, count_offset, weights_offset, used_offset, numerators_offset, denominators_offset, counters_offset, table_length, column_from, counters_from, table_from, words_of, with_table}
use Rattle.dispatch.specs.OneCall.{with_counts}
use Rattle.call_words.specs.CallWords.{with_column}

-- the first three words, and a run of the words after them
three-front : (words : List ℕ) (n : ℕ) → 3 ≤ length words → take (suc (suc (suc n))) words ≡ nth words 0 ∷ nth words 1 ∷ nth words 2 ∷ take n (drop 3 words)
three-front [] n l = absurd (omega arith)
three-front (a ∷ []) n l = absurd (omega arith)
three-front (a ∷ b ∷ []) n l = absurd (omega arith)
three-front (a ∷ b ∷ c ∷ rest) n l = refl

-- a column, and the words after it
column-next : (words : List ℕ) (at : ℕ) → drop at words ≡ column_from words at ++ drop (at + 256) words
column-next words at = sym (take-append-drop 256 (drop at words)) ∙ ap (λ (rest : List ℕ). column_from words at ++ rest) (drop-drop 256 at words)

-- the words up to the end of a column
column-end : (words : List ℕ) (at : ℕ) → take (at + 256) words ≡ take at words ++ column_from words at
column-end words at = take-add at 256 words

-- a front, three columns, the counters and a rest, as a store puts them together and as the words of a table have them
together : {x z : List ℕ} (front used numerators denominators counters rest : List ℕ) → x ≡ front → z ≡ numerators ++ (denominators ++ (counters ++ rest))
    → x ++ (used ++ z) ≡ (front ++ used ++ numerators ++ denominators ++ counters) ++ rest
together front used numerators denominators counters rest e f =
    rw (e, f)
    (sym (append_assoc (front ++ used ++ numerators ++ denominators) counters rest
    ∙ append_assoc (front ++ used ++ numerators) denominators (counters ++ rest)
    ∙ append_assoc (front ++ used) numerators (denominators ++ (counters ++ rest))
    ∙ append_assoc front used (numerators ++ (denominators ++ (counters ++ rest)))))

-- the counters after what comes before them
behind : {x : List ℕ} (front counters rest : List ℕ) → x ≡ front → x ++ (counters ++ rest) ≡ (front ++ counters) ++ rest
behind front counters rest e = rw e (sym (append_assoc front counters rest))

pub long-table : (words : List ℕ) (t : Table) → table_length ≤ length words → words_of t ++ drop table_length words ≡ with_table words t
unfolding with_table
long-table words t l = rw (le-ltb (length words) table_length l)

-- the numbers and the weights, and the words up to the counters
front-words : (words : List ℕ) → 3 ≤ length words → take used_offset words ≡ (nth words capacity_offset ∷ nth words salt_offset ∷ nth words count_offset ∷ []) ++ column_from words weights_offset
front-words words l = three-front words 256 l

-- the counters, and the words after them
counters-next : (words : List ℕ) → drop counters_offset words ≡ counters_from words ++ drop table_length words
counters-next words = sym (take-append-drop 8 (drop counters_offset words)) ∙ ap (λ (rest : List ℕ). counters_from words ++ rest) (drop-drop 8 counters_offset words)

pub used-stored : (words used : List ℕ) → table_length ≤ length words → with_column words used_offset used ≡ with_table words (with_counts (table_from words) used (counters_from words))
unfolding with_column table_from words_of
used-stored words used l =
    together ((nth words capacity_offset ∷ nth words salt_offset ∷ nth words count_offset ∷ []) ++ column_from words weights_offset) used (column_from words numerators_offset) (column_from words denominators_offset) (counters_from words) (drop table_length words)
    (front-words words (omega arith))
    (column-next words numerators_offset ∙ ap (λ (rest : List ℕ). column_from words numerators_offset ++ rest) (column-next words denominators_offset
    ∙ ap (λ (rest : List ℕ). column_from words denominators_offset ++ rest) (counters-next words)))
    ∙ long-table words (with_counts (table_from words) used (counters_from words)) l

-- the words up to the counters
columns-end : (words : List ℕ) → table_length ≤ length words
    → take counters_offset words ≡ (nth words capacity_offset ∷ nth words salt_offset ∷ nth words count_offset ∷ []) ++ column_from words weights_offset ++ column_from words used_offset ++ column_from words numerators_offset ++ column_from words denominators_offset
columns-end words l =
    column-end words denominators_offset
    ∙ ap (λ (x : List ℕ). x ++ column_from words denominators_offset) (column-end words numerators_offset
    ∙ ap (λ (x : List ℕ). x ++ column_from words numerators_offset) (column-end words used_offset
    ∙ ap (λ (x : List ℕ). x ++ column_from words used_offset) (front-words words (omega arith))))

pub counters-stored : (words counters counters' : List ℕ) → table_length ≤ length words → counters ≡ counters'
    → take counters_offset words ++ (counters ++ drop 8 (drop counters_offset words)) ≡ with_table words (with_counters (table_from words) counters')
unfolding table_from words_of
counters-stored words counters counters' l e =
    ap₂ (λ (x y : List ℕ). take counters_offset words ++ (x ++ y)) e (drop-drop 8 counters_offset words)
    ∙ behind _ counters' (drop table_length words) (columns-end words l)
    ∙ long-table words (with_counters (table_from words) counters') l

-- a column stored in its place
pub column-stored : (words column column' : List ℕ) (at : ℕ) → column ≡ column' → take at words ++ (column ++ drop 256 (drop at words)) ≡ with_column words at column'
unfolding with_column
column-stored words column column' at e = ap₂ (λ (x y : List ℕ). take at words ++ (x ++ y)) e (drop-drop 256 at words)

-- to store the table that is there changes nothing
pub stored_same : (words : List ℕ) → table_length ≤ length words → with_table words (table_from words) ≡ words
unfolding table_from with_column
stored_same words l =
    sym (used-stored words (column_from words used_offset) l)
    ∙ ap (λ (rest : List ℕ). take used_offset words ++ rest) (sym (column-next words used_offset))
    ∙ take-append-drop used_offset words
