-- `image_writer::store_counters` meets its contract. The invariant: the words of the counters passed are stored.
use mathlib.Core.Path.{◌≡◌}
use lib.Seq.{sets}
use Rattle.lists.specs.Below.{nth, join_below}
use Rattle.image.specs.Layout.{counter_word}
use Rattle.image_writer.proofs.store_counters.Given as goal

abbrev pub invariant-loop-i : goal.invariant-loop-i
invariant-loop-i l =
    l.destination ≡ sets l.initial.destination l.from (join_below (λ i. counter_word (nth l.counters i)) l.i)
