-- `dispatch::count_write` meets its contract: the call is a write that is accepted, so its server has room.
use mathlib.Core.Path.{ap}
use native.Mathlib.Omega.{arith}
use Rattle.calls.specs.Numbered.{is_write}
use Rattle.dispatch.proofs.count_write.Goals as goal

pub count_entry-requires-clause-server_in_bounds : goal.count_entry-requires-clause-server_in_bounds
unfolding is_write
count_entry-requires-clause-server_in_bounds c = (c.requires _ c.in-Some.is (ap is_write c.in-Write.is) c.if-reply-eq0.true).0

pub count_entry-requires-clause-server_bound : goal.count_entry-requires-clause-server_bound
unfolding is_write
count_entry-requires-clause-server_bound c = omega (arith, (c.requires _ c.in-Some.is (ap is_write c.in-Write.is) c.if-reply-eq0.true).1)
