-- `upkeep::set_weight` meets its contract. The invariant: every ReadP so far is raised, and the sum of the weights so far.
use Prim.Native.Nat.{◌*◌, ◌≤◌}
use mathlib.Core.Path.{◌≡◌}
use Rattle.lists.specs.Below.{total}
use Rattle.table.specs.Parts.{weight_of}
use Rattle.upkeep.proofs.Raising.{raised_below}
use Rattle.upkeep.proofs.set_weight.Given as goal

abbrev pub invariant-loop-i : goal.invariant-loop-i
invariant-loop-i l = record {
  raised : l.table ≡ raised_below l.initial.table l.i;
  sum : l.sum ≡ total (weight_of l.initial.table) l.i;
  small : l.sum ≤ 65536 * l.i;
}
