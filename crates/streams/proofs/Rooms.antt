-- The room of a buffer from a position on, and what stands before it. Assumes nothing.
use Prim.Native.Nat.{ℕ, ◌-◌, ◌≤◌}
use mathlib.Core.Path.{◌≡◌, subst}
use mathlib.Core.List.{List, ◌++◌}
use Rattle.std.specs.Prelude.{Option, Some}
use native.Mathlib.Omega.{arith}
use lib.ListN.{length, take, drop, length-drop}
use lib.Seq.{length-take-le, take-append_seam}
use Rattle.streams.specs.Stream.{AtMost}

-- the number that a read answers
pub some_read : (room : ℕ) (r : Option ℕ) (n : ℕ) → AtMost room r → r ≡ Some n → n ≤ room
some_read room r n h e = subst (λ (x : Option ℕ). AtMost room x) e h

module _ (buffer : List ℕ) (from : ℕ) (h : from ≤ length buffer) where
  -- the room from a position on
  pub room_after : (r : Option ℕ) → AtMost (length (take (length buffer - from) (drop from buffer))) r → AtMost (length buffer - from) r
  room_after r m = rw (length-take-le (length buffer - from) (drop from buffer) (omega (arith, length-drop from buffer))) at m

  -- what stands before it
  pub front_kept : (rest : List ℕ) → take from (take from buffer ++ rest) ≡ take from buffer
  front_kept rest =
      let seam : take (length (take from buffer)) (take from buffer ++ rest) ≡ take from buffer = take-append_seam (take from buffer) rest in
      subst (λ (n : ℕ). take n (take from buffer ++ rest) ≡ take from buffer) (length-take-le from buffer h) seam
