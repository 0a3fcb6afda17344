-- `upkeep::add_server` meets its contract. The sum is in range because the table is sound.
use Prim.Native.Nat.{ℕ, ◌+◌, ◌<◌}
use mathlib.Core.Path.{◌≡◌}
use native.Mathlib.Numerals.{add-one}
use native.Mathlib.Omega.{arith}
use lib.ListN.{length, set}
use lib.Seq.{get_or-set_same, get_or-set_other}
use mathlib.Core.List.{List}
use borrow.Author.Rules.{rules}
use Rattle.lists.specs.Below.{nth, total}
use Rattle.lists.proofs.Below.{total-le, total-cong}
use Rattle.placement.specs.Rule.{share_of, write_p}
use Rattle.placement.proofs.Fronts.{front-bounded, front-total}
use Rattle.table.specs.Parts.{weight_of}
use Rattle.upkeep.specs.Upkeep.{with_server}
use Rattle.table.proofs.Soundness.{sound-facts, sound-bounded}
use Rattle.upkeep.proofs.add_server.Goals as goal

-- WriteP of the new server, from the sum of the weights before it
new-write : (ws : List ℕ) (n w : ℕ) → n < length ws → write_p (nth (set ws n w)) n ≡ share_of n w (total (nth ws) n + w)
unfolding write_p total
new-write ws n w l = rw (get_or-set_same ws n w 0 l, total-cong (nth (set ws n w)) (nth ws) n (λ k h. get_or-set_other ws n k w 0 (λ e. omega arith)))

pub sum_weights-sum-requires : goal.sum_weights-sum-requires
sum_weights-sum-requires c = front-bounded _ _ (sound-bounded c.args.table.now (search rules) (sound-facts _ c.requires.table_value))

pub overflow_add-sum : goal.overflow_add-sum
overflow_add-sum c =
    let t = c.args.table.now in
    let s = sound-facts t c.requires.table_value in
    omega (arith, c.sum_weights-sum.ensures, front-total t.weights t.count (search rules), total-le (weight_of t) 65536 t.count (sound-bounded t (search rules) s).light)

pub returns : goal.returns
unfolding with_server
returns c =
    let t = c.args.table.now in
    let few : t.count < length t.weights = search rules in
    rw (new-write t.weights t.count c.args.weight few, ← front-total t.weights t.count (search rules), ← c.sum_weights-sum.ensures, ← c.write_p-write.ensures, add-one)
