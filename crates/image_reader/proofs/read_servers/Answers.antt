-- `image_reader::read_servers` meets its contract.
use mathlib.Core.Path.{refl}
use Rattle.lists.specs.Below.{all_below, set_below}
use Rattle.lists.proofs.Below.{all_below-next}
use Rattle.image.specs.Decoding.{server_tagged}
use Rattle.image_reader.proofs.Tagged.{server_read}
use Rattle.image_reader.proofs.read_servers.Goals as goal

pub loop-k-init : goal.loop-k-init
unfolding all_below set_below
loop-k-init c = record { tagged = refl; read = refl }

pub loop-k-preserved : goal.loop-k-preserved
unfolding server_tagged
loop-k-preserved c = record {
  tagged = all_below-next (server_tagged c.args.image.now) c.loop-k.k _ c.loop-k.tagged c.are_tagged-tagged.ensures c.loop-k.invariant.tagged;
  read = server_read c.args.image.now c.loop-k.k c.args.table.now c.loop-k.table _ _ _ _ c.loop-k.invariant.read c.content_of.ensures c.content_of-in-loop-k.ensures c.content_of-in-loop-k-2.ensures c.content_of-in-loop-k-3.ensures;
}
