-- `image_writer::store_servers` meets its contract. The invariant: the words of the servers passed are stored.
use mathlib.Core.Path.{◌≡◌}
use lib.Seq.{sets}
use Rattle.lists.specs.Below.{join_below}
use Rattle.table.specs.Parts.{table_of}
use Rattle.image.specs.Layout.{head_words, server_image}
use Rattle.image_writer.proofs.store_servers.Given as goal

abbrev pub invariant-loop-k : goal.invariant-loop-k
invariant-loop-k l =
    l.destination ≡ sets l.initial.destination head_words (join_below (server_image (table_of l.table)) l.k)
