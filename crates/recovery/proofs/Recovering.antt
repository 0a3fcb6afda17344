-- What recover leaves: a server's used by the words, and a table with another used for each server.
-- Assumes nothing.
use Prim.Native.Nat.{ℕ, zero, suc, ◌+◌, ◌-◌, ◌≤◌, ◌<◌}
use mathlib.Core.Path.{◌≡◌, refl, sym, ap, ◌∙◌, subst}
use mathlib.Core.Bool.{Bool, true, false, cond, not}
use mathlib.Core.List.{List, [], ◌∷◌, ◌++◌}
use native.Mathlib.Numerals.{sub-one}
use native.Mathlib.Omega.{arith}
use lib.ListN.{length, take, drop}
use lib.Dec.{eqb, ltb}
use lib.Seq.{ext_get_or, take_all}
use borrow.Author.Tests.{eqb-true, eqb-false, ltb-true, ltb-false, not-false}
use Rattle.std.proofs.lemmas.List.{length-take-le}
use Rattle.std.specs.Option.{MatchOption}
use Rattle.std.proofs.Common.{Option, Some}
use Rattle.lists.specs.Below.{nth, highest, set_below}
use Rattle.lists.proofs.Tests.{by_bool}
use Rattle.lists.proofs.Below.{length-set_below, set_below-at, set_below-above, set_below-cong}
use Rattle.lists.proofs.Listed.{set_below-take}
use Rattle.medium.specs.Entry.{entry_words, server_at, entry_at, blank_run}
use Rattle.table.specs.declared.Table.{Table}
use Rattle.table.specs.Parts.{shape_of, table_by, used_of}
use Rattle.table.specs.Sound.{sound}
use Rattle.table.proofs.Soundness.{Arrays, parts, read-part, sound-facts, facts-sound}
use Rattle.replies.specs.Refusal.{◌when◌, first_of}
use Rattle.replies.proofs.Refusals.{passed}
use Rattle.checks.specs.Ready.{short}
use Rattle.recovery.specs.Recovery.{past_last, touched, used_on, with_used, recover_rows}

-- one past the last that passes

pub past_last-le : (p : ℕ → Bool) (n : ℕ) → past_last p n ≤ n
unfolding past_last
past_last-le p zero = omega arith
past_last-le p (suc n) = by_bool (p n) (λ e. rw e (omega arith)) (λ e. rw e (omega (arith, past_last-le p n)))

pub past_last-is : (p : ℕ → Bool) (n u : ℕ) → u ≤ n → ((j : ℕ) → u ≤ j → j < n → p j ≡ false) → (0 < u → p (u - 1) ≡ true) → past_last p n ≡ u
unfolding past_last
past_last-is p zero u l none last = omega arith
past_last-is p (suc n) u l none last = by_bool (eqb u (suc n))
    (λ d.
    let top : u ≡ suc n = eqb-true u (suc n) d in
    let passes : p (suc n - 1) ≡ true = ap (λ (i : ℕ). p (i - 1)) (sym top) ∙ last (omega arith) in
    let here : p n ≡ true = rw sub-one at passes in
    rw (here, top))
    (λ d.
    let below : u ≤ n = omega (arith, eqb-false u (suc n) d) in
    rw (none n below (omega arith)) (past_last-is p n u below (λ j a b. none j a (omega arith)) last))

pub past_last-cong : (p q : ℕ → Bool) (n : ℕ) → ((k : ℕ) → k < n → p k ≡ q k) → past_last p n ≡ past_last q n
unfolding past_last
past_last-cong p q zero h = refl
past_last-cong p q (suc n) h = rw (h n (omega arith), past_last-cong p q n (λ k l. h k (omega arith)))

-- one number less
pub past_last-last : (p : ℕ → Bool) (n : ℕ) (b : Bool) → 0 < n → p (n - 1) ≡ b → past_last p n ≡ cond b n (past_last p (n - 1))
unfolding past_last
past_last-last p zero b l e = absurd (omega arith)
past_last-last p (suc n) b l e = let d : p n ≡ b = rw sub-one at e in rw (sub-one, d)

-- a server's used by the words

pub used_on-le : (capacity : ℕ) (m : List ℕ) (k : ℕ) → used_on capacity m k ≤ capacity
unfolding used_on
used_on-le capacity m k = past_last-le (touched capacity m k) capacity

pub used_on-is : (capacity : ℕ) (m : List ℕ) (k u : ℕ) → u ≤ capacity
    → ((j : ℕ) → u ≤ j → j < capacity → touched capacity m k j ≡ false)
    → (0 < u → touched capacity m k (u - 1) ≡ true)
    → used_on capacity m k ≡ u
unfolding used_on
used_on-is capacity m k u l none last = past_last-is (touched capacity m k) capacity u l none last

-- a table with another used for each server

pub with_used-arrays : (t : Table) (f : ℕ → ℕ) → Arrays t → Arrays (with_used t f)
unfolding with_used
with_used-arrays t f a = record {
  weights = a.weights;
  used = length-set_below f t.count t.used ∙ a.used;
  numerators = a.numerators;
  denominators = a.denominators;
  counters = a.counters;
}

pub with_used-at : (t : Table) (f : ℕ → ℕ) → Arrays t → t.count ≤ 256 → (k : ℕ) → k < t.count → used_of (with_used t f) k ≡ f k
unfolding with_used
with_used-at t f a few k l = set_below-at f t.count t.used (omega (arith, a.used)) k l

pub with_used-sound : (t : Table) (f : ℕ → ℕ) → Arrays t → sound t ≡ true → ((k : ℕ) → k < t.count → f k ≤ t.capacity) → sound (with_used t f) ≡ true
unfolding with_used
with_used-sound t f a h fits =
    let s = sound-facts t h in
    let u = with_used t f in
    facts-sound u (record {
      low = s.low;
      high = s.high;
      salted = s.salted;
      few = s.few;
      bounds = s.bounds;
      server = λ k l.
          let o = s.server k l in
          parts u k o.light (omega (arith, with_used-at t f a s.few k l, fits k l)) (read-part t k o);
    })

-- what stands there already changes nothing
set_below-same : (f : ℕ → ℕ) (n : ℕ) (xs : List ℕ) → n ≤ length xs → ((k : ℕ) → k < n → f k ≡ nth xs k) → set_below f n xs ≡ xs
set_below-same f n xs l h = ext_get_or 0 (set_below f n xs) xs (length-set_below f n xs)
    (λ k _. by_bool (ltb k n)
    (λ e. set_below-at f n xs l k (ltb-true k n e) ∙ h k (ltb-true k n e))
    (λ e. set_below-above f n xs k (ltb-false k n e)))

pub with_used-same : (t : Table) (f : ℕ → ℕ) → Arrays t → t.count ≤ 256 → ((k : ℕ) → k < t.count → f k ≡ used_of t k) → with_used t f ≡ t
unfolding with_used
with_used-same t f a few h =
    ap (λ (used : List ℕ). table_by (shape_of t) t.weights used t.numerators t.denominators t.counters)
    (set_below-same f t.count t.used (omega (arith, a.used)) h)

-- by the highest entry that has a word which is not blank
pub past_last-found : (p : ℕ → Bool) (n : ℕ) (o : Option ℕ) (r : ℕ) {P : ℕ → Type 0} → o ≡ highest p n → MatchOption o (r ≡ 0) P → ((j : ℕ) → P j → r ≡ j + 1) → r ≡ past_last p n
unfolding past_last highest
past_last-found p zero o r {P} e m next = subst (λ (x : Option ℕ). MatchOption x (r ≡ 0) P) e m
past_last-found p (suc n) o r {P} e m next = by_bool (p n)
    (λ d.
    let top : o ≡ Some n = rw d at e in
    let here : r ≡ n + 1 = next n (subst (λ (x : Option ℕ). MatchOption x (r ≡ 0) P) top m) in
    rw d (omega arith))
    (λ d.
    let below : o ≡ highest p n = rw d at e in
    rw d (past_last-found p n o r below m next))

-- the entries of a server from the highest down: what is found is the server's used, if it is among the first n
module _ (capacity : ℕ) (m : List ℕ) (k n : ℕ) (l : 0 < n) (left : used_on capacity m k ≡ past_last (touched capacity m k) n) where
  -- an entry by a test of its words
  tested : (at : ℕ) (b : Bool) → at ≡ entry_at capacity k (n - 1) → b ≡ blank_run m at entry_words → touched capacity m k (n - 1) ≡ not b
  unfolding touched
  tested at b e f = rw (f, e)

  pub used-found : (at : ℕ) (b : Bool) → at ≡ entry_at capacity k (n - 1) → b ≡ blank_run m at entry_words → b ≡ false → n ≡ used_on capacity m k
  used-found at b e f g = sym (left ∙ past_last-last (touched capacity m k) n true l (tested at b e f ∙ ap not g))

  pub used-further : (at : ℕ) (b : Bool) → at ≡ entry_at capacity k (n - 1) → b ≡ blank_run m at entry_words → b ≡ true
      → used_on capacity m k ≡ past_last (touched capacity m k) (n - 1)
  used-further at b e f g = left ∙ past_last-last (touched capacity m k) n false l (tested at b e f ∙ ap not g)

-- nothing is left
pub used-none : (capacity : ℕ) (m : List ℕ) (k n : ℕ) → n ≡ 0 → used_on capacity m k ≡ past_last (touched capacity m k) n → 0 ≡ used_on capacity m k
unfolding past_last
used-none capacity m k n z left = sym (left ∙ ap (past_last (touched capacity m k)) z)

-- where recover is accepted, the table is sound and the medium has the words of its servers
pub record Recoverable (t : Table) (m : List ℕ) : Type 0 where
  pub is_sound : sound t ≡ true
  pub long : server_at t.capacity t.count ≤ length m

pub recover-accepted : (t : Table) (m : List ℕ) → first_of (recover_rows t m) ≡ 0 → Recoverable t m
unfolding recover_rows short
recover-accepted t m z =
    let a = passed 0 (not (sound t)) (5 when short t m ∷ []) z in
    let b = passed 4 (short t m) [] a.1 in
    record { is_sound = not-false _ a.0; long = ltb-false (length m) (server_at t.capacity t.count) b.0 }

-- the part of a column that is recounted, before the rest of it
pub put_back : (f : ℕ → ℕ) (n : ℕ) (xs part : List ℕ) → n ≤ length xs → part ≡ set_below f n (take n xs) → part ++ drop n xs ≡ set_below f n xs
put_back f n xs part l e =
    let few : n ≤ length (take n xs) = omega (arith, length-take-le n xs l) in
    let long : length part ≡ n = ap length e ∙ length-set_below f n (take n xs) ∙ length-take-le n xs l in
    ap (λ (ys : List ℕ). ys ++ drop n xs) (sym (take_all n part (omega arith)))
    ∙ sym (set_below-take part xs n (omega arith) l)
    ∙ set_below-cong (nth part) f n xs (λ k i. ap (λ (ys : List ℕ). nth ys k) e ∙ set_below-at f n (take n xs) few k i)

-- the table, once its column is recounted
pub recounted : (t : Table) (f : ℕ → ℕ) (used : List ℕ) → used ≡ set_below f t.count t.used
    → table_by (shape_of t) t.weights used t.numerators t.denominators t.counters ≡ with_used t f
unfolding with_used
recounted t f used e = ap (λ (x : List ℕ). table_by (shape_of t) t.weights x t.numerators t.denominators t.counters) e
