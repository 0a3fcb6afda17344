-- `dispatch::run_in` meets its contract: a lookup, or a call that changes the medium and has no burn left over.
use mathlib.Core.Path.{◌∙◌}
use Rattle.dispatch.proofs.Some.{some-reply, some-medium}
use Rattle.dispatch.proofs.run_in.Goals as goal

pub returns-in_default-call : goal.returns-in_default-call
returns-in_default-call c =
    let lent = c.requires _ c.in-Some.is in
    rw c.in-Some.is
    (record {
      reply = c.run_some.ensures.reply ∙ some-reply _ c.in-Some.call lent c.in_default-call.not-Lookup;
      medium = c.run_some.ensures.medium ∙ some-medium _ c.in-Some.call lent c.in_default-call.not-Lookup;
    })
