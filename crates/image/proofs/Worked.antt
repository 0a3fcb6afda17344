-- The known image, computed.
-- Assumes nothing.
use mathlib.Core.Path.{◌≡◌, refl, subst}
use mathlib.Core.Bool.{true}
use mathlib.Core.List.{List}
use Prim.Native.Nat.{ℕ}
use Rattle.lists.specs.Below.{all_below, total, join_below}
use Rattle.counters.specs.Counter.{in_bounds}
use Rattle.placement.specs.Fraction.{at_least}
use Rattle.placement.specs.Rule.{share_of, write_p}
use Rattle.table.specs.Sound.{in_range, read_sound, server_sound, sound}
use Rattle.image.specs.Layout.{image_of}
use Rattle.image.specs.Decoding.{is_image}
use Rattle.image.specs.Known.{example_table, example_words, KnownImage}
use Rattle.image.proofs.Reading.{image-taken}

example-image : image_of example_table ≡ example_words
unfolding image_of join_below
example-image = refl

example-sound : sound example_table ≡ true
unfolding sound in_range server_sound read_sound in_bounds all_below at_least write_p share_of total
example-sound = refl

pub known_image : KnownImage
known_image = record {
  words = example-image;
  taken = subst (λ (w : List ℕ). is_image w ≡ true) example-image (image-taken example_table example-sound);
}
