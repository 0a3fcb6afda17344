-- Reading step by step: the digits at the front, the number that they make, and the line of a letter and its numbers.
-- Assumes nothing.
use Rattle.std.proofs.Common.{◌≡◌, ◌≢◌, ℕ, zero, suc, ◌+◌, ◌-◌, ◌≤◌, ◌<◌, min, Bool, true, false, cond, ltb, eqb, List, Option, Some, None, Result, Ok, Err, refl, length, get_or, take, drop, take_all, length-drop, length-take, get_or-take, get_or-drop, add-one, arith}
use Rattle.std.specs.Char.{digit_value}
use Rattle.std.specs.Int.{IsInRange}
use Rattle.std.specs.List.{prefix_len}
use Rattle.std.specs.Option.{option_map}
use Rattle.std.specs.Result.{OkIff, result_ok}
use Rattle.std.specs.Str.{IsUtf8}
use Rattle.std.specs.Str.Parse.{digits_value, ParsesUnsigned}
use Rattle.std.proofs.lemmas.Fmt.{IsAscii-from_digits}
use Rattle.std.proofs.lemmas.Int.Digits.{digits_value_more}
use Rattle.std.proofs.lemmas.List.Sums.{prefix_len-drop_yes, prefix_len-drop_no, prefix_len-drop_all, prefix_len_passes}
use Rattle.std.proofs.lemmas.List.Folds.{length-prefix_len}
use Rattle.std.proofs.lemmas.Str.{IsUtf8-from_ascii, digit_value_digit}
use Rattle.std.proofs.lemmas.Str.Parse.{numerals_by_value, tells_by_index, parse_digits}
use lib.ListN.{get_or-eq_default}
use borrow.Author.Tests.{le-leb, lt-ltb, ltb-true, ltb-false, eq-eqb, ne_eqb, leb-true}
use Rattle.lists.specs.Below.{nth}
use Rattle.lists.proofs.Tests.{by_bool, and_l, and_r}
use Rattle.parsing.specs.declared.Line.{Line}
use Rattle.parsing.specs.Line.{is_digit, digit_run, value_of, Number, number_at, spaced, line_by, has_two, last, first, line_of}

-- a byte that is a digit
digit_range : (b : ℕ) → is_digit b ≡ true → IsInRange 48 57 b
unfolding is_digit
digit_range b e = (leb-true 48 b (and_l _ _ e), leb-true b 57 (and_r _ _ e))

module _ (s : List ℕ) (from : ℕ) where
  none-past : length s ≤ from → is_digit (nth s from) ≡ false
  unfolding is_digit
  none-past l = rw (get_or-eq_default s 0 l)

  stops : is_digit (nth s from) ≡ false → prefix_len is_digit (drop from s) ≡ 0
  stops e = by_bool (ltb from (length s))
      (λ t. prefix_len-drop_no is_digit s from 0 (ltb-true from (length s) t) e)
      (λ f. prefix_len-drop_all is_digit s from (ltb-false from (length s) f))

  goes-on : is_digit (nth s from) ≡ true → prefix_len is_digit (drop from s) ≡ 1 + prefix_len is_digit (drop (from + 1) s)
  goes-on e = by_bool (ltb from (length s))
      (λ t. prefix_len-drop_yes is_digit s from 0 (ltb-true from (length s) t) e)
      (λ f. let n : is_digit (nth s from) ≡ false = none-past (ltb-false from (length s) f) in cc)

-- the digits counted up to n are those at the front, and at most n
counted : (s : List ℕ) (n from : ℕ) → digit_run s from n ≡ min n (prefix_len is_digit (drop from s))
unfolding digit_run
counted s zero from = omega arith
counted s (suc n) from = by_bool (is_digit (nth s from))
    (λ e. rw (e, goes-on s from e, counted s n (suc from), add-one) (omega arith))
    (λ e. rw (e, stops s from e) (omega arith))

-- what stands from a position on, as a slice from there has it
abbrev pub rest : List ℕ → ℕ → List ℕ
rest s from = take (length s - from) (drop from s)

-- the first d bytes of it
abbrev pub text : List ℕ → ℕ → ℕ → List ℕ
text s from d = take d (rest s from)

module _ (s : List ℕ) (from d : ℕ) (h : from ≤ length s) (e : d ≡ prefix_len is_digit (rest s from)) where
  front : d ≡ prefix_len is_digit (drop from s)
  front =
      let whole : rest s from ≡ drop from s = take_all _ _ (simp length-drop (omega arith)) in
      rw whole at e

  -- the digits at the front are inside, and are those of the line
  digits-inside : length (text s from d) ≡ d
  digits-inside = rw e (length-prefix_len is_digit (rest s from))

  digit_there : (k : ℕ) → k < length (text s from d)
      → (get_or (text s from d) k 0 ≡ nth s (from + k)) × IsInRange 48 57 (get_or (text s from d) k 0)
  digit_there k l =
      let b : k < d = omega (arith, digits-inside) in
      let p : k < length s - from = omega (arith, l, simp (length-take, length-drop) at l) in
      let at : get_or (text s from d) k 0 ≡ nth s (from + k) = rw (get_or-take, get_or-take, get_or-drop) in
      let i : k < prefix_len is_digit (drop from s) = omega (arith, front) in
      let digit : is_digit (nth s (from + k)) ≡ true = rw get_or-drop at (prefix_len_passes is_digit (drop from s) k 0 i) in
      (at, rw at (digit_range _ digit))

  -- they are ASCII
  pub is_text : IsUtf8 (text s from d)
  is_text = IsUtf8-from_ascii _ (IsAscii-from_digits _ ((numerals_by_value _ tells_by_index).to _ (λ k l. (digit_there k l).1)))

  -- the value of the first k of them
  value_so_far : (k : ℕ) → k ≤ d → digits_value 10 (take k (text s from d)) ≡ value_of s from k
  unfolding value_of
  value_so_far zero l = refl
  value_so_far (suc k) l =
      let t = digit_there k (omega (arith, digits-inside)) in
      let v = digits_value_more 10 (text s from d) k (omega (arith, digits-inside)) in
      let g : digit_value (get_or (text s from d) k 0) ≡ nth s (from + k) - 48 = omega (arith, digit_value_digit _ t.1, t.0) in
      rw (add-one, value_so_far k (omega arith), g) at v

  value-is : digits_value 10 (text s from d) ≡ value_of s from d
  value-is =
      let all : take d (text s from d) ≡ text s from d = take_all _ _ (omega (arith, digits-inside)) in
      rw all at (value_so_far d (omega arith))

  run-is : digit_run s from 11 ≡ min 11 d
  run-is = rw front (counted s 11 from)

  pub no_digit : d ≡ 0 → None ≡ number_at s from
  unfolding number_at
  no_digit z = let r : digit_run s from 11 ≡ 0 = omega (arith, run-is) in rw r

  pub too_long : 10 < d → None ≡ number_at s from
  unfolding number_at
  too_long l = let r : digit_run s from 11 ≡ 11 = omega (arith, run-is) in rw r

  module _ (p : d ≢ 0) (l : d ≤ 10) where
    run_all : digit_run s from 11 ≡ d
    run_all = omega (arith, run-is)

    by_value : {E : Type 0} (r : Result ℕ E) → OkIff r ((0 < d) × (value_of s from d < 4294967296)) (value_of s from d)
        → option_map (λ v. (v, from + d)) (result_ok r) ≡ number_at s from
    unfolding number_at
    by_value (Ok x) h = rw (run_all, le-leb 1 d (omega arith), le-leb d 10 l, h.1, lt-ltb _ _ h.0.1)
    by_value (Err _) h = by_bool (ltb (value_of s from d) 4294967296)
        (λ t. absurd (h (omega arith, ltb-true _ _ t)))
        (λ f. rw (run_all, le-leb 1 d (omega arith), le-leb d 10 l, f))

    -- what the library parses in the digits
    pub number_parsed : {E : Type 0} (r : Result ℕ E) → ParsesUnsigned 32 10 (text s from d) r
        → option_map (λ v. (v, from + d)) (result_ok r) ≡ number_at s from
    number_parsed r h =
        let digits = parse_digits (numerals_by_value _ tells_by_index) 32 (text s from d) r h (λ k i. (digit_there k i).1) in
        by_value r (rw (value-is, digits-inside) at digits)

-- the number after one space
pub past_end : (s : List ℕ) (at : ℕ) → length s ≤ at → None ≡ spaced s at
unfolding spaced
past_end s at l = rw (get_or-eq_default s 0 l)

pub no-space : (s : List ℕ) (at : ℕ) → (nth s at ≡ 32 → ⊥) → None ≡ spaced s at
unfolding spaced
no-space s at n = rw (ne_eqb (nth s at) 32 n)

pub after-space : (s : List ℕ) (at : ℕ) (r : Option Number) → nth s at ≡ 32 → r ≡ number_at s (at + 1) → r ≡ spaced s at
unfolding spaced
after-space s at r e f = rw (eq-eqb (nth s at) 32 e) f

-- a number after a space is inside the line
pub inside-line : (s : List ℕ) (at : ℕ) (x : Number) → Some x ≡ spaced s at → at < length s
inside-line s at x e = by_bool (ltb at (length s))
    (λ t. ltb-true at (length s) t)
    (λ f. let n = past_end s at (ltb-false at (length s) f) in cc)

-- the line, once its numbers are read
pub no-first : (s : List ℕ) → None ≡ spaced s 1 → None ≡ line_of s
unfolding line_of first
no-first s e = rw (← e)

module _ (s : List ℕ) (a n : ℕ) (e : Some (a, n) ≡ spaced s 1) where
  -- nothing may stand after the last number
  pub whole_of : Number → Option Line
  whole_of x = cond (eqb x.1 (length s)) (line_by (nth s 0) a x.0) None

  module _ (two : Bool) (h : two ≡ has_two (nth s 0)) where
    pub no_second : two ≡ true → None ≡ spaced s n → None ≡ line_of s
    unfolding line_of first last
    no_second t f = rw (← e, ← h, t, ← f)

    pub with_second : two ≡ true → (x : Number) → Some x ≡ spaced s n → line_of s ≡ whole_of x
    unfolding line_of first last whole_of
    with_second t x f = rw (← e, ← h, t, ← f)

    pub without-second : two ≡ false → line_of s ≡ whole_of (0, n)
    unfolding line_of first last whole_of
    without-second t = rw (← e, ← h, t)

  pub more-after : (x : Number) → line_of s ≡ whole_of x → x.1 ≢ length s → None ≡ line_of s
  unfolding whole_of
  more-after x w d = rw (w, ne_eqb x.1 (length s) d)

  pub none_after : (x : Number) (r : Option Line) → line_of s ≡ whole_of x → x.1 ≡ length s → r ≡ line_by (nth s 0) a x.0 → r ≡ line_of s
  unfolding whole_of
  none_after x r w d f = rw (w, eq-eqb x.1 (length s) d) f
