-- `batch_scan::newest_of` meets its contract: all entries are passed, with no entry met before.
use Rattle.std.proofs.Common.{None, arith}
use Rattle.std.proofs.lemmas.List.{get_or-replicate}
use Rattle.medium.proofs.Places.{server-next}
use Rattle.batch_scan.proofs.Passing.{newest-all}
use Rattle.batch_scan.proofs.newest_of.Goals as goal

pub pass_all-requires-clause-used_in_bounds : goal.pass_all-requires-clause-used_in_bounds
pass_all-requires-clause-used_in_bounds c =
    omega (arith, c.server_at-base.ensures, server-next c.args.server.now.capacity c.args.server.now.number, c.args.server.now.few)

pub returns : goal.returns
returns c =
    let s = c.args.server.now in
    newest-all s.capacity s.used s.medium.now c.args.ids.now.all.now s.number c.server_at-base.result _ c.pass_all.new.newest c.server_at-base.ensures (λ i l. get_or-replicate 256 i None None (omega arith)) c.pass_all.ensures
