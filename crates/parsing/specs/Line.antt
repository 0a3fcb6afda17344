-- How a line is read: it has a letter and numbers of 1 to 10 digits below 2^32, one space between.
-- A line is a list of bytes without its LF.
use Rattle.std.specs.Prelude.{ℕ, zero, suc, ◌+◌, ◌-◌, ◌*◌, Bool, cond, ◌&&◌, ◌||◌, List, length, leb, ltb, eqb, Option, None, Some}
use Rattle.std.specs.Option.{option_map}
use Rattle.lists.specs.Below.{nth}
use Rattle.parsing.specs.declared.Line.{Line}
use Rattle.parsing.specs.declared.Line.TheVariants as line
use Rattle.letters.specs.Letter.{start_letter, reweight_letter, write_letter, call_for}

unfoldable pub is_digit : ℕ → Bool
is_digit b = leb 48 b && leb b 57

-- how many bytes from a position on are digits, counted up to n
unfoldable pub digit_run : List ℕ → ℕ → ℕ → ℕ
digit_run s from zero = 0
digit_run s from (suc n) = cond (is_digit (nth s from)) (suc (digit_run s (suc from) n)) 0

-- the value of n digits from a position on
unfoldable pub value_of : List ℕ → ℕ → ℕ → ℕ
value_of s from zero = 0
value_of s from (suc n) = value_of s from n * 10 + (nth s (from + n) - 48)

-- a number and the position after it
abbrev pub Number : Type 0
Number = ℕ × ℕ

-- the number of 1 to 10 digits, below 2^32, that begins at a position; the digits are counted up to 11
unfoldable pub number_at : List ℕ → ℕ → Option Number
number_at s from =
    let n = digit_run s from 11 in
    cond (leb 1 n && (leb n 10 && ltb (value_of s from n) 4294967296)) (Some (value_of s from n, from + n)) None

-- the number after one space
unfoldable pub spaced : List ℕ → ℕ → Option Number
spaced s at = cond (eqb (nth s at) 32) (number_at s (at + 1)) None

-- the line of a letter and its numbers, where the letter has one: S starts, and the others are calls
unfoldable pub line_by : ℕ → ℕ → ℕ → Option Line
line_by letter a b = cond (eqb letter start_letter) (Some (line.Start a)) (option_map line.Call (call_for letter a b))

-- G and W have two numbers, the others one
unfoldable pub has_two : ℕ → Bool
has_two letter = eqb letter reweight_letter || eqb letter write_letter

-- the last number of a line, with nothing after it; None is a line that can't be read
unfoldable pub last : List ℕ → (ℕ → Option Line) → Option Number → Option Line
last s f None = None
last s f (Some x) = cond (eqb x.1 (length s)) (f x.0) None

-- the first number; the second, if there is one, begins where it ends
unfoldable pub first : List ℕ → Option Number → Option Line
first s None = None
first s (Some x) =
    cond (has_two (nth s 0)) (last s (line_by (nth s 0) x.0) (spaced s x.1))
    (last s (λ a. line_by (nth s 0) a 0) (Some x))

unfoldable pub line_of : List ℕ → Option Line
line_of s = first s (spaced s 1)
