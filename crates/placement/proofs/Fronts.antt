-- The first n weights of a list, taken apart: they are bounded, and have the sum and the write servers of those n.
-- Assumes nothing.
use Prim.Native.Nat.{ℕ, ◌≤◌}
use mathlib.Core.Path.{◌≡◌, refl}
use mathlib.Core.List.{List}
use native.Mathlib.Omega.{arith}
use lib.ListN.{length, take}
use Rattle.std.proofs.lemmas.List.{get_or-take, length-take-le}
use Rattle.lists.specs.Below.{nth, total}
use Rattle.lists.proofs.Below.{total-cong}
use Rattle.placement.specs.Rule.{write_server, Bounded}
use Rattle.placement.proofs.Rules.{write_server-cong}

module _ (ws : List ℕ) (n : ℕ) where
  pub front-bounded : Bounded ws n → Bounded (take n ws) (length (take n ws))
  front-bounded B =
      let l : length (take n ws) ≡ n = length-take-le n ws B.each in
      rw l (record { few = B.few; each = omega (arith, l); light = λ k h. rw (get_or-take n ws k 0 h) (B.light k h) })

  pub front-total : n ≤ length ws → total (nth (take n ws)) (length (take n ws)) ≡ total (nth ws) n
  front-total h = rw (length-take-le n ws h) (total-cong (nth (take n ws)) (nth ws) n (λ k l. get_or-take n ws k 0 l))

  pub front-server : (salt id : ℕ) → n ≤ length ws → write_server (nth (take n ws)) (length (take n ws)) salt id ≡ write_server (nth ws) n salt id
  front-server salt id h =
      rw (length-take-le n ws h) (write_server-cong (nth (take n ws)) (nth ws) n n salt salt id (λ k l. get_or-take n ws k 0 l) refl refl)
