-- `planning::target_of` meets its contract: the weights of a sound table's servers are bounded.
use mathlib.Core.Path.{sym, ◌∙◌}
use lib.Seq.{length-take-le}
use borrow.Author.Rules.{rules}
use Rattle.placement.proofs.Fronts.{front-bounded, front-server}
use Rattle.table.specs.Parts.{table_of}
use Rattle.table.proofs.Soundness.{sound-facts, sound-bounded}
use Rattle.planning.specs.WriteRows.{target}
use Rattle.planning.proofs.target_of.Goals as goal

pub slice_bounds-write_server-end : goal.slice_bounds-write_server-end
slice_bounds-write_server-end c =
    let t = table_of c.args.sound.now.view.now in
    sym (length-take-le t.count t.weights (sound-bounded t (search rules) (sound-facts t c.args.sound.now.tested)).each)

pub write_server-requires : goal.write_server-requires
write_server-requires c =
    let t = table_of c.args.sound.now.view.now in
    front-bounded _ _ (sound-bounded t (search rules) (sound-facts t c.args.sound.now.tested))

pub returns : goal.returns
unfolding target
returns c =
    let t = table_of c.args.sound.now.view.now in
    let few = sound-bounded t (search rules) (sound-facts t c.args.sound.now.tested) in
    c.write_server.ensures ∙ front-server _ _ _ _ few.each
