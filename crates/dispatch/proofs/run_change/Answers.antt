-- `dispatch::run_change` meets its contract: there is no third call that changes the servers.
use Rattle.dispatch.proofs.Calling.{no-other}
use Rattle.dispatch.proofs.run_change.Goals as goal

pub returns-in_default-change : goal.returns-in_default-change
returns-in_default-change c =
    absurd (no-other c.in-Some.change (c.requires _ c.in-Some.is) c.in_default-change.not-AddServer c.in_default-change.not-Reweight)
