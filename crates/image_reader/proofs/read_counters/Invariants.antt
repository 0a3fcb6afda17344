-- `image_reader::read_counters` meets its contract. The invariant: the words passed have their tag and are read.
use mathlib.Core.Path.{◌≡◌}
use mathlib.Core.Bool.{true}
use Prim.Native.Nat.{◌+◌}
use Rattle.lists.specs.Below.{all_below, set_below}
use Rattle.image.specs.Decoding.{content_at, counter_tagged}
use Rattle.image_reader.proofs.read_counters.Given as goal

abbrev pub invariant-loop-i : goal.invariant-loop-i
invariant-loop-i l = record {
  tagged : all_below (counter_tagged l.image l.from) l.i ≡ true;
  read : l.counters ≡ set_below (λ i. content_at l.image (l.from + i)) l.i l.initial.counters;
}
