-- Laws of the write servers over weights that passed their test.
-- Assumes nothing.
use Prim.Native.Nat.{ℕ, ◌<◌, ◌≤◌}
use mathlib.Core.Path.{◌≡◌, ap}
use mathlib.Core.Bool.{true}
use mathlib.Core.List.{List}
use native.Mathlib.Omega.{arith}
use lib.ListN.{length, take}
use Rattle.std.proofs.lemmas.List.{length-take-le, get_or-take}
use lib.Dec.{leb}
use borrow.Author.Tests.{leb-true, lt-ltb, le-ltb, le-leb, lt-leb}
use Rattle.std.specs.List.{list_all}
use Rattle.limits.specs.Limits.{max_capacity}
use Rattle.lists.specs.Below.{nth, all_below, set_below}
use Rattle.lists.proofs.Tests.{and_l, and_r}
use Rattle.std.proofs.lemmas.Bool.Decides.{nat_tests}
use Rattle.lists.proofs.Listed.{all_below-list}
use Rattle.lists.proofs.Below.{all_below-out, highest-le, set_below-cong}
use Rattle.draws.specs.Draw.{modulus, draw_of}
use Rattle.placement.specs.Rule.{write_p, takes, pick, write_server, Bounded}
use Rattle.picks.specs.Picks.{light, bounded}

pub bounded-facts : (ws : List ℕ) → bounded ws ≡ true → Bounded ws (length ws)
unfolding bounded
bounded-facts ws e = record {
  few = leb-true (length ws) 256 (and_l _ _ (and_r (leb 1 (length ws)) _ e));
  each = omega arith;
  light = λ k l. leb-true (nth ws k) 65536 (all_below-out (light ws) (length ws) (and_r (leb (length ws) 256) _ (and_r (leb 1 (length ws)) _ e)) k l);
}

pub served_small : (ws : List ℕ) (salt id k : ℕ) → Bounded ws (length ws) → k ≡ write_server (nth ws) (length ws) salt id → k < 4294967296
unfolding write_server pick
served_small ws salt id k B e = omega (arith, highest-le (takes modulus (draw_of salt id) (write_p (nth ws))) (length ws), B.few)

-- the write server of an id
abbrev pub served_by : List ℕ → ℕ → ℕ → ℕ
served_by ws salt id = write_server (nth ws) (length ws) salt id

-- the first n ids have by a rule what they have among all
pub first-stored : (rule : ℕ → ℕ) (ids servers : List ℕ) (n : ℕ) → n ≤ length ids
    → set_below (λ i. rule (nth (take n ids) i)) (length (take n ids)) servers ≡ set_below (λ i. rule (nth ids i)) n servers
first-stored rule ids servers n l = rw (length-take-le n ids l) (set_below-cong _ _ n servers (λ k a. ap rule (get_or-take n ids k 0 a)))

pub ruleset picking = (bounded-facts, served_small, le-ltb, lt-ltb)

-- the test of all weights, by the library's word
pub light-all : (ws : List ℕ) → all_below (light ws) (length ws) ≡ list_all (λ w. leb w max_capacity) ws
light-all ws = all_below-list (λ w. leb w max_capacity) ws

pub ruleset bounding = (light-all, le-leb, lt-leb, nat_tests)
