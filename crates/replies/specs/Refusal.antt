-- Which refusal a call gives: document 01's table, as rows in the order of the tests.
use Rattle.std.specs.Prelude.{ℕ, Bool, true, cond, ◌&&◌, List, [], ◌∷◌, ltb, eqb}

-- a refusal number, and whether it applies
pub record Row : Type 0 where
  pub number : ℕ
  pub applies : Bool

infix 70 ◌when◌
abbrev pub ◌when◌ : ℕ → Bool → Row
n when b = record { number = n; applies = b }

-- the number of the first row that applies, and 0 where none does: the call is accepted
unfoldable pub first_of : List Row → ℕ
first_of [] = 0
first_of (r ∷ rows) = cond r.applies r.number (first_of rows)

-- the numbers rise from row to row, the first being above n
unfoldable pub rising : ℕ → List Row → Bool
rising n [] = true
rising n (r ∷ rows) = ltb n r.number && rising r.number rows

-- what a call gives: `done` where it is accepted, `kept` where it is refused
unfoldable pub settle : {A : Type 0} → List Row → A → A → A
settle rows done kept = cond (eqb (first_of rows) 0) done kept
