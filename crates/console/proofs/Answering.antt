-- What is printed, by what was read. Assumes nothing.
use Prim.Native.Nat.{ℕ}
use mathlib.Core.Path.{◌≡◌, ap}
use mathlib.Core.List.{List}
use Rattle.std.specs.Prelude.{Option, None, Some}
use lib.ListN.{take}
use Rattle.printing.specs.Print.{question}
use Rattle.sheet.specs.Sheet.{output_of}
use Rattle.console.specs.Console.{answer_to}

module _ (r : Option ℕ) (input m : List ℕ) where
  pub to-bytes : (n : ℕ) → r ≡ Some n → answer_to r input m ≡ output_of (take n input) m
  unfolding answer_to
  to-bytes n e = ap (λ (x : Option ℕ). answer_to x input m) e

  pub to-failure : r ≡ None → answer_to r input m ≡ record { bytes = question; sheet = record { table = None; medium = m } }
  unfolding answer_to
  to-failure e = ap (λ (x : Option ℕ). answer_to x input m) e
