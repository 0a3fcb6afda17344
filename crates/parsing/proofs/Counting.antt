-- The digits from a position on counted one by one, up to 11, and what the number there is by their count and value.
-- Assumes nothing.
use Prim.Native.Nat.{ℕ, suc, ◌+◌, ◌-◌, ◌*◌, ◌^◌, ◌≤◌, ◌<◌}
use mathlib.Core.Path.{◌≡◌, refl, ap, ◌∙◌}
use mathlib.Core.Bool.{true, false}
use mathlib.Core.List.{List}
use Rattle.std.specs.Prelude.{None, Some}
use native.Mathlib.Nat.{pow-le-pow_right}
use native.Mathlib.Numerals.{add-one}
use native.Mathlib.Omega.{arith}
use lib.ListN.{length, get_or-eq_default}
use borrow.Author.Tests.{le-leb, lt-leb, lt-ltb, le-ltb}
use Rattle.lists.specs.Below.{nth}
use Rattle.parsing.specs.Line.{is_digit, digit_run, value_of, number_at}

-- the tests of a byte
pub digit : (b : ℕ) → 48 ≤ b → b ≤ 57 → is_digit b ≡ true
unfolding is_digit
digit b l h = rw (le-leb 48 b l, le-leb b 57 h)

pub below-digits : (b : ℕ) → b < 48 → is_digit b ≡ false
unfolding is_digit
below-digits b l = rw (lt-leb 48 b l)

pub above-digits : (b : ℕ) → 57 < b → is_digit b ≡ false
unfolding is_digit
above-digits b h = rw (le-leb 48 b (omega arith), lt-leb b 57 h)

pub past-line : (s : List ℕ) (at : ℕ) → length s ≤ at → is_digit (nth s at) ≡ false
past-line s at l = ap is_digit (get_or-eq_default s 0 l) ∙ below-digits 0 (omega arith)

-- what the next digit makes of a value, and that ten digits fit
pub next-value : (s : List ℕ) (from n v : ℕ) → v ≡ value_of s from n → v * 10 + (nth s (from + n) - 48) ≡ value_of s from (n + 1)
unfolding value_of
next-value s from n v e = rw (add-one, e)

pub next-bound : (v n d : ℕ) → v < 10 ^ n → d ≤ 9 → v * 10 + d < 10 ^ (n + 1)
next-bound v n d l h = rw add-one (omega arith)

pub ten-small : (v n : ℕ) → v < 10 ^ n → n ≤ 10 → v < 10000000000
ten-small v n l h = let m : 10 ^ n ≤ 10 ^ 10 = pow-le-pow_right (omega arith) h in omega arith

module _ (s : List ℕ) (from : ℕ) where
  -- how many digits there are where n are passed, as the bytes left to look at give it
  pub run_left : ℕ → ℕ
  run_left n = n + digit_run s (from + n) (11 - n)

  pub run-all : digit_run s from 11 ≡ run_left 0
  unfolding run_left
  run-all = let e : from + 0 ≡ from = omega arith in rw e (omega arith)

  pub run_on : (n : ℕ) → n ≤ 10 → is_digit (nth s (from + n)) ≡ true → run_left n ≡ run_left (n + 1)
  unfolding run_left digit_run
  run_on n l d =
      let e : 11 - n ≡ suc (10 - n) = omega arith in
      let f : 11 - (n + 1) ≡ 10 - n = omega arith in
      let g : from + (n + 1) ≡ suc (from + n) = omega arith in
      rw (e, f, g, d) (omega arith)

  pub run-stops : (n : ℕ) → n ≤ 10 → is_digit (nth s (from + n)) ≡ false → run_left n ≡ n
  unfolding run_left digit_run
  run-stops n l d = let e : 11 - n ≡ suc (10 - n) = omega arith in rw (e, d) (omega arith)

  eleven : run_left 11 ≡ 11
  unfolding run_left digit_run
  eleven = refl

  -- the number there by their count: none of them, or too many
  pub eleven_read : (n : ℕ) → n ≡ 10 → digit_run s from 11 ≡ run_left (n + 1) → None ≡ number_at s from
  unfolding number_at
  eleven_read n d e = let f : digit_run s from 11 ≡ 11 = rw d at e ∙ eleven in rw f

  module _ (n : ℕ) (e : digit_run s from 11 ≡ n) where
    pub none_read : n ≡ 0 → None ≡ number_at s from
    unfolding number_at
    none_read d = rw (e, d)

    -- and by their value
    module _ (v : ℕ) (w : v ≡ value_of s from n) (p : 1 ≤ n) (l : n ≤ 10) where
      pub too-high : 4294967296 ≤ v → None ≡ number_at s from
      unfolding number_at
      too-high h = rw (e, le-leb 1 n p, le-leb n 10 l, ← w, le-ltb v 4294967296 h)

      pub number_read : v < 4294967296 → Some (v, from + n) ≡ number_at s from
      unfolding number_at
      number_read h = rw (e, le-leb 1 n p, le-leb n 10 l, ← w, lt-ltb v 4294967296 h)
