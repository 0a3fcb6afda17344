-- `table::View::is_sound` meets its contract. The invariant: every server so far is sound, and the sum of their weights.
use Prim.Native.Nat.{◌*◌, ◌≤◌}
use mathlib.Core.Path.{◌≡◌}
use mathlib.Core.Bool.{true}
use Rattle.lists.specs.Below.{all_below, total}
use Rattle.table.specs.Parts.{table_of, weight_of}
use Rattle.table.specs.Sound.{server_sound}
use Rattle.table.proofs.View.is_sound.Given as goal

abbrev pub invariant-loop-i : goal.invariant-loop-i
invariant-loop-i l = record {
  high : l.capacity ≤ 65536;
  sound : all_below (server_sound (table_of l.self)) l.i ≡ true;
  sum : l.sum ≡ total (weight_of (table_of l.self)) l.i;
  small : l.sum ≤ 65536 * l.i;
}
