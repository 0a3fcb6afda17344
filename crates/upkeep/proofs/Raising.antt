-- The loop of `set_weight`: after n servers it has the table with every ReadP below n raised.
-- Assumes nothing.
use Prim.Native.Nat.{ℕ, ◌+◌}
use mathlib.Core.Path.{◌≡◌, sym, ap, ap₂, ◌∙◌}
use mathlib.Core.Bool.{Bool, true, false, cond}
use mathlib.Core.List.{List}
use native.Mathlib.Numerals.{add-one}
use native.Mathlib.Omega.{arith}
use lib.ListN.{set}
use lib.Seq.{set-get_or}
use Rattle.lists.specs.Below.{nth, set_below, total}
use Rattle.lists.proofs.Below.{total-more, set_below-above}
use Rattle.placement.specs.declared.Fraction.{Fraction}
use Rattle.placement.specs.Fraction.{at_least, raise}
use Rattle.placement.specs.Rule.{share_of, write_p}
use Rattle.placement.proofs.Fractions.{fraction-eq}
use Rattle.table.specs.declared.Table.{Table}
use Rattle.table.specs.Parts.{shape_of, table_by, weight_of, read_p}

-- ReadP of server k, raised
abbrev pub better : Table → ℕ → Fraction
better t k = raise (read_p t k) (write_p (weight_of t) k)

abbrev pub with_reads : Table → List ℕ → List ℕ → Table
with_reads t numerators denominators = table_by (shape_of t) t.weights t.used numerators denominators t.counters

unfoldable pub raised_below : Table → ℕ → Table
raised_below t n = with_reads t (set_below (λ k. (better t k).num) n t.numerators) (set_below (λ k. (better t k).den) n t.denominators)

-- the server that comes next has its ReadP as before
next-read : (t : Table) (n : ℕ) → read_p (raised_below t n) n ≡ read_p t n
unfolding raised_below
next-read t n = fraction-eq _ _ (set_below-above _ n t.numerators n (omega arith)) (set_below-above _ n t.denominators n (omega arith))

-- and setting it to what it is changes nothing
same-again : (f : ℕ → ℕ) (n : ℕ) (xs : List ℕ) → f n ≡ nth xs n → set_below f (n + 1) xs ≡ set_below f n xs
unfolding set_below
same-again f n xs e = rw (add-one, e, ← set_below-above f n xs n (omega arith)) (set-get_or (set_below f n xs) n 0)

module _ (t next : Table) (n : ℕ) (so_far : next ≡ raised_below t n) where
  pub same-weights : next.weights ≡ t.weights
  unfolding raised_below
  same-weights = ap (λ (u : Table). u.weights) so_far

  module _ (sum : ℕ) (s : sum ≡ total (weight_of t) n) where
    pub sum_more : sum + weight_of next n ≡ total (weight_of t) (n + 1)
    sum_more = rw (total-more, s, same-weights)

    module _ (read write : Fraction) (r : read ≡ read_p next n) (w : write ≡ share_of n (weight_of next n) (sum + weight_of next n)) where
      -- the code's WriteP and its test
      write-is : write ≡ write_p (weight_of t) n
      unfolding write_p total
      write-is = rw (← s, ← same-weights) w

      test-is : at_least read write ≡ at_least (read_p t n) (write_p (weight_of t) n)
      test-is = ap₂ at_least (r ∙ ap (λ (u : Table). read_p u n) so_far ∙ next-read t n) write-is

      -- the server keeps its pair where that is at least WriteP, and takes WriteP otherwise
      pub raise-more : (b : Bool) → at_least read write ≡ b
          → cond b next (with_reads next (set next.numerators n write.num) (set next.denominators n write.den)) ≡ raised_below t (n + 1)
      unfolding raised_below raise set_below
      raise-more true e =
          let d = sym test-is ∙ e in
          so_far ∙ (λ i. with_reads t
          (sym (same-again (λ k. (better t k).num) n t.numerators (rw d)) i)
          (sym (same-again (λ k. (better t k).den) n t.denominators (rw d)) i))
      raise-more false e = rw (so_far, write-is, add-one, sym test-is ∙ e)
