-- What a tenant, the paper's club, sees of a list of calls, which of these must be accepted alike, and what it hears.
use Rattle.std.specs.Prelude.{ℕ, Bool, true, false, cond, ◌&&◌, List, [], ◌∷◌, eqb}
use Rattle.replies.specs.declared.Reply.{Reply}
use Rattle.batch_answer.specs.Answer.{BatchReply}
use Rattle.batch.specs.Batch.{batch_reply}
use Rattle.history.specs.Call.{Call, add_server, reweight, write, delete, lookup, batch}
use Rattle.history.specs.Machine.{State, reply, next}

-- a tenant sees every add_server and reweight, and the calls that carry it, whatever their ids
unfoldable pub sees : ℕ → Call → Bool
sees tenant (add_server weight) = true
sees tenant (reweight server weight) = true
sees tenant (write caller id value) = eqb caller tenant
sees tenant (delete caller id) = eqb caller tenant
sees tenant (lookup caller id) = eqb caller tenant
sees tenant (batch caller ids) = eqb caller tenant

-- the calls of which it is supposed that they are accepted in both histories or refused in both: their refusal may come of the
-- medium's length, or of the entries that neighbours used
unfoldable pub supposed : Call → Bool
supposed (add_server weight) = true
supposed (reweight server weight) = true
supposed (write caller id value) = true
supposed (delete caller id) = false
supposed (lookup caller id) = false
supposed (batch caller ids) = false

-- the call is accepted
unfoldable pub verdict : State → Call → Bool
verdict S c = eqb (reply S c).refusal 0

-- of the supposed calls a refusal's number is left out; of all others the whole reply is shown
unfoldable pub shown : Call → Reply → Reply
shown c r = record {
  refusal = cond (supposed c) 0 r.refusal;
  server = r.server;
  value = r.value;
  opened = r.opened;
  invalidated = r.invalidated;
}

-- what is heard: the reply to a call as far as it is shown, or the whole answer to a batch
pub data Shown : Type 0 where
  to_call : Reply → Shown
  to_batch : BatchReply → Shown

abbrev pub shown_reply : State → Call → Shown
shown_reply S c = to_call (shown c (reply S c))

unfoldable pub shown_by : State → Call → Shown
shown_by S (add_server weight) = shown_reply S (add_server weight)
shown_by S (reweight server weight) = shown_reply S (reweight server weight)
shown_by S (write caller id value) = shown_reply S (write caller id value)
shown_by S (delete caller id) = shown_reply S (delete caller id)
shown_by S (lookup caller id) = shown_reply S (lookup caller id)
shown_by S (batch caller ids) = to_batch (batch_reply S.table S.medium caller ids)

-- the calls of a list that the tenant sees
unfoldable pub seen : ℕ → List Call → List Call
seen tenant [] = []
seen tenant (c ∷ calls) = cond (sees tenant c) (c ∷ seen tenant calls) (seen tenant calls)

-- the list run from a state: which of the supposed calls that the tenant sees are accepted
unfoldable pub verdicts : ℕ → State → List Call → List Bool
verdicts tenant S [] = []
verdicts tenant S (c ∷ calls) =
    let later = verdicts tenant (next S c) calls in
    cond (sees tenant c && supposed c) (verdict S c ∷ later) later

-- and what the tenant hears of the calls that it sees
unfoldable pub heard : ℕ → State → List Call → List Shown
heard tenant S [] = []
heard tenant S (c ∷ calls) =
    let later = heard tenant (next S c) calls in
    cond (sees tenant c) (shown_by S c ∷ later) later
