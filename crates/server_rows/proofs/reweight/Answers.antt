-- `server_rows::reweight` meets its contract.
use mathlib.Core.Path.{sym, ◌∙◌}
use Rattle.table.specs.Parts.{table_of}
use Rattle.table.proofs.Soundness.{sound-facts}
use Rattle.server_rows.proofs.reweight.Goals as goal

pub overflow_sub-capacity : goal.overflow_sub-capacity
overflow_sub-capacity c =
    let s = sound-facts (table_of c.args.table.now) (sym c.is_sound.ensures ∙ c.if-not-is_sound.false) in
    (s.server c.args.server c.if-table-server.false).fits
