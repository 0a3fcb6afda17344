-- Laws of servers with their limits.
-- Assumes nothing.
use Prim.Native.Nat.{ℕ, zero, suc, ◌+◌, ◌≤◌, ◌<◌}
use mathlib.Core.Path.{◌≡◌, refl, sym, ap, ◌∙◌}
use mathlib.Core.Bool.{Bool, false, cond, ◌&&◌}
use mathlib.Core.List.{List}
use native.Mathlib.Nat.{add-zero, add-suc}
use native.Mathlib.Numerals.{add-one}
use native.Mathlib.Omega.{arith}
use lib.ListN.{length, set}
use lib.Seq.{get_or-set_same, get_or-set_other}
use Rattle.std.specs.Prelude.{Option, None, Some}
use Rattle.std.specs.Option.{unwrap_or, option_map_or}
use lib.Dec.{leb, ltb, eqb}
use borrow.Author.Tests.{eqb-true, eqb-false, ltb-true, ltb-false, lt-ltb, le-ltb, le-leb}
use Rattle.lists.specs.Below.{nth, highest, or_zero, total}
use Rattle.lists.proofs.Tests.{by_bool}
use Rattle.lists.proofs.Below.{highest-le}
use Rattle.draws.specs.Draw.{modulus, draw_of}
use Rattle.draws.proofs.Draws.{draw<}
use Rattle.placement.specs.declared.Fraction.{Fraction}
use Rattle.placement.specs.Fraction.{exceeds}
use Rattle.placement.specs.Rule.{write_server}
use Rattle.placement.proofs.Rules.{write_server-parts}
use Rattle.picks.specs.Limited.{part_of, passes, Limited}

-- l is the limit of server k
abbrev pub LimitOf : List ℕ → ℕ → ℕ → Type 0
LimitOf ws k l = (x : ℕ) → x < modulus → exceeds modulus (part_of ws k) x ≡ ltb 0 (nth ws k) && leb x l

-- the first n servers have their limits
abbrev pub LimitsBelow : List ℕ → List ℕ → ℕ → Type 0
LimitsBelow ws ls n = (k : ℕ) → k < n → LimitOf ws k (nth ls k)

-- a limit as a number, which is 0 where there is none: the fraction is 0 then, and its weight alone says that it exceeds no draw
limit-number : (f : Fraction) (limit : Option ℕ) → ((x : ℕ) → x < modulus → exceeds modulus f x ≡ option_map_or (λ greatest. leb x greatest) limit false)
    → (x : ℕ) → x < modulus → exceeds modulus f x ≡ ltb 0 f.num && leb x (unwrap_or limit 0)
unfolding exceeds
limit-number f None rule x h = rw (rule x h, le-ltb 0 f.num (omega (arith, ltb-false _ _ (rule 0 (omega arith)))))
limit-number f (Some l) rule x h = rw (rule x h, lt-ltb 0 f.num (omega (arith, ltb-true _ _ (rule 0 (omega arith) ∙ le-leb 0 l (omega arith)))))

-- one server more, its limit worked out from its weight and the sum of those before it
pub limits-more : (ws ls : List ℕ) (n sum l : ℕ) (limit : Option ℕ) → n < length ls → LimitsBelow ws ls n → sum ≡ total (nth ws) n
    → ((x : ℕ) → x < modulus
    → exceeds modulus (record { num = nth ws n; den = sum + nth ws n }) x ≡ option_map_or (λ greatest. leb x greatest) limit false)
    → l ≡ unwrap_or limit 0 → LimitsBelow ws (set ls n l) (n + 1)
unfolding total
limits-more ws ls n sum l limit inside before e rule number = λ k a x h. by_bool (eqb k n)
    (λ d. rw (eqb-true k n d, get_or-set_same ls n l 0 inside, ← e, number) (limit-number _ limit rule x h))
    (λ d. rw (get_or-set_other ls n k l 0 (eqb-false k n d)) (before k (omega (arith, eqb-false k n d)) x h))

-- the test of a server by its draw
pub passes-is : (ws ls : List ℕ) (salt id k draw : ℕ) → Limited ws ls → k < length ws → draw ≡ draw_of salt id k
    → ltb 0 (nth ws k) && leb draw (nth ls k) ≡ passes ws salt id k
passes-is ws ls salt id k draw H l e = rw e (sym (H.rule k _ l (draw< salt id k)))

-- no server of a block, and one more
pub highest-none : (p : ℕ → Bool) → None ≡ highest p 0
unfolding highest
highest-none p = refl

pub highest-more : (p : ℕ → Bool) (n : ℕ) (before after : Option ℕ) (here b : Bool) → here ≡ p n → here ≡ b → before ≡ highest p n → after ≡ cond b (Some n) before
    → after ≡ highest p (n + 1)
unfolding highest
highest-more p n before after here b e d k a = rw (add-one, ← e, d, ← k) a

pub ruleset blocks = (highest-none, highest-more)

-- the highest of n + d numbers is among the last d, or else among the first n
highest-parts : (p : ℕ → Bool) (n d : ℕ) → highest p (n + d) ≡ option_map_or (λ i. Some (n + i)) (highest (λ i. p (n + i)) d) (highest p n)
unfolding highest
highest-parts p n zero = rw add-zero
highest-parts p n (suc d) = by_bool (p (n + d)) (λ e. rw (add-suc, e)) (λ e. rw (add-suc, e) (highest-parts p n d))

-- a server of a block is small
pub highest-small : (p : ℕ → Bool) (n j : ℕ) → highest p n ≡ Some j → j ≤ n
unfolding or_zero
highest-small p n j e = let number : or_zero (highest p n) ≡ j = ap or_zero e in omega (arith, highest-le p n)

-- the write server of an id, by the tests of the first k servers
abbrev pub ServedBy : List ℕ → ℕ → ℕ → ℕ → Type 0
ServedBy ws salt id k = write_server (nth ws) (length ws) salt id ≡ or_zero (highest (passes ws salt id) k)

pub served-all : (ws : List ℕ) (salt id : ℕ) → ServedBy ws salt id (length ws)
served-all ws salt id = write_server-parts (nth ws) (length ws) salt id

-- the last d of the k servers that are left: the highest of them that takes the id
module _ (ws : List ℕ) (salt id k from d : ℕ) (whole : k ≡ from + d) (served : ServedBy ws salt id k) where
  served-parts : (o : Option ℕ) → highest (λ i. passes ws salt id (from + i)) d ≡ o
      → write_server (nth ws) (length ws) salt id ≡ or_zero (option_map_or (λ i. Some (from + i)) o (highest (passes ws salt id) from))
  served-parts o e = rw whole at served ∙ ap or_zero (rw (← e) (highest-parts (passes ws salt id) from d))

  pub served-past : (o : Option ℕ) → highest (λ i. passes ws salt id (from + i)) d ≡ o → ((r : ℕ) → o ≡ Some r → ⊥) → ServedBy ws salt id from
  served-past None e none = served-parts None e
  served-past (Some r) e none = absurd (none r refl)

  pub served-among : (r : ℕ) → highest (λ i. passes ws salt id (from + i)) d ≡ Some r → from + r ≡ write_server (nth ws) (length ws) salt id
  unfolding or_zero
  served-among r e = sym (served-parts (Some r) e)

-- the k servers that are left, too few for a block
pub served-rest : (ws : List ℕ) (salt id k r : ℕ) → ServedBy ws salt id k → r ≡ write_server (nth ws) k salt id → r ≡ write_server (nth ws) (length ws) salt id
served-rest ws salt id k r served e = e ∙ write_server-parts (nth ws) k salt id ∙ sym served
