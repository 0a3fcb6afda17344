-- `image_reader::read_servers` meets its contract. The invariant: the words of the servers passed are read, and it is known whether each has its tag.
use mathlib.Core.Path.{◌≡◌}
use Rattle.lists.specs.Below.{all_below}
use Rattle.image.specs.Decoding.{server_tagged}
use Rattle.image_reader.specs.Servers.{with_servers}
use Rattle.image_reader.proofs.read_servers.Given as goal

abbrev pub invariant-loop-k : goal.invariant-loop-k
invariant-loop-k l = record {
  tagged : l.tagged ≡ all_below (server_tagged l.image) l.k;
  read : l.table ≡ with_servers l.image l.k l.initial.table;
}
