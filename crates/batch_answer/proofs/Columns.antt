-- Columns of the answers to lookups: what a column has after an answer is stored, where it stands and how long it is.
-- Assumes nothing.
use Rattle.std.proofs.Common.{◌≡◌, ◌∙◌, ℕ, zero, suc, ◌∷◌, replicate, refl, ◌<◌, ◌≤◌, List, map, length, get_or, set, sum, sym, ap, arith}
use Rattle.std.proofs.lemmas.List.{length-map, map-set, take_all}
use Rattle.lists.proofs.Below.{total-le}
use lib.ListN.{get_or-map}
use Rattle.std.specs.Prelude.{Ok, All}
use Rattle.std.proofs.lemmas.List.Elements.{All-get_or}
use Rattle.lists.specs.Below.{nth, total}
use Rattle.lists.proofs.Listed.{total-sum}
use Rattle.replies.specs.declared.Reply.{Reply}
use Rattle.replies.specs.declared.LookupAnswer.{LookupAnswer}
use Rattle.replies.specs.Reply.{found_or, reply_of_lookup}
use Rattle.replies.proofs.Distinct.{lookup_opened}
use Rattle.batch_answer.specs.Answer.{column, opened_counts_of}

module _ (part : Reply → ℕ) where
  pub length-column : (answers : List LookupAnswer) → length (column part answers) ≡ length answers
  unfolding column
  length-column answers = length-map answers _

  pub column-set : (answers : List LookupAnswer) (i : ℕ) (a : LookupAnswer) → column part (set answers i a) ≡ set (column part answers) i (part (reply_of_lookup a))
  unfolding column
  column-set answers i a = map-set _ answers i a

  -- past the end it has what the filler has
  pub column-at : (answers : List LookupAnswer) (i : ℕ) (d : LookupAnswer) → part (reply_of_lookup d) ≡ 0 → nth (column part answers) i ≡ part (reply_of_lookup (get_or answers i d))
  unfolding column
  column-at answers i d z =
      ap (λ (x : ℕ). get_or (map (λ (a : LookupAnswer). part (reply_of_lookup a)) answers) i x) (sym z) ∙ get_or-map (λ (a : LookupAnswer). part (reply_of_lookup a)) answers i d

  pub column-fill : (n : ℕ) (a : LookupAnswer) → column part (replicate n a) ≡ replicate n (part (reply_of_lookup a))
  unfolding column
  column-fill zero a = refl
  column-fill (suc n) a = ap (λ (xs : List ℕ). part (reply_of_lookup a) ∷ xs) (column-fill n a)

-- the opened counts of 256 answers, by the answers' own field
module _ (answers : List LookupAnswer) (long : length answers ≡ 256) where
  abbrev opened : LookupAnswer → ℕ
  opened a = a.opened

  pub opened_map : map opened answers ≡ opened_counts_of answers
  unfolding column
  opened_map = ap (λ (f : LookupAnswer → ℕ). map f answers) (λ k a. sym (lookup_opened a) k)

  pub opened_sum : sum (map opened answers) ≡ total (nth (opened_counts_of answers)) 256
  opened_sum =
      let whole : 256 ≡ length (opened_counts_of answers) = omega (arith, length-column (λ r. r.opened) answers, long) in
      rw opened_map (sym (total-sum (opened_counts_of answers) 256 (omega (arith, whole)) ∙ ap sum (take_all 256 (opened_counts_of answers) (omega (arith, whole)))))

  -- each has 32 bits, so that their sum fits
  pub sum_fits : All (λ (a : LookupAnswer). a.opened < 4294967296) answers → sum (map opened answers) < 18446744073709551616
  unfolding reply_of_lookup found_or
  sum_fits few = omega (arith, opened_sum, total-le (nth (opened_counts_of answers)) 4294967296 256 at-most)
    where
      at-most : (i : ℕ) → i < 256 → nth (opened_counts_of answers) i ≤ 4294967296
      at-most i l =
          let d : LookupAnswer = record { value = Ok 0; opened = 0 } in
          omega (arith, column-at (λ r. r.opened) answers i d refl, lookup_opened (get_or answers i d), All-get_or (λ (a : LookupAnswer). a.opened < 4294967296) answers i d (omega (arith, long)) few)
