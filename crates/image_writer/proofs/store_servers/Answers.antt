-- `image_writer::store_servers` meets its contract.
use mathlib.Core.Path.{refl, ◌∙◌}
use Rattle.table.specs.Parts.{table_of}
use Rattle.image.specs.Layout.{head_words, part_words, part_at, server_image}
use Rattle.image.proofs.Writing.{stored_more, server_small}
use Rattle.image_writer.proofs.store_servers.Goals as goal

pub store_server-requires-clause-weight_lt_content_range : goal.store_server-requires-clause-weight_lt_content_range
store_server-requires-clause-weight_lt_content_range c =
    server_small (table_of c.args.sound.now.view.now) c.loop-k.k _ c.args.sound.now.tested c.loop-k-test.true c.read_p.ensures

pub loop-k-preserved : goal.loop-k-preserved
loop-k-preserved c =
    c.store_server.ensures ∙ rw c.read_p.ensures (stored_more part_words (server_image (table_of c.args.sound.now.view.now)) (λ k. refl) c.args.destination.now c.loop-k.destination head_words c.loop-k.k (part_at c.loop-k.k) c.loop-k.invariant refl)
