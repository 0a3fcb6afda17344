-- Neighbours are invisible (document 02, items 2 and 5): over two histories a tenant, the paper's club, gets the same, and its
-- counter is the same.
use Rattle.std.specs.Prelude.{ℕ, ◌<◌, ◌≡◌, List}
use Rattle.limits.specs.Limits.{tenants}
use Rattle.table.specs.Parts.{opened_of}
use Rattle.history.specs.Call.{Call}
use Rattle.history.specs.Machine.{after, begin}
use Rattle.isolation.specs.Seen.{seen, verdicts, heard}

-- "In two histories on blank discs with the same start": two lists of calls on fresh tables of the same capacity, over n and over
-- n' blank words. They are any lists: in each the calls of other tenants, accepted or refused, may come anywhere. Nothing crashes in a
-- list of calls (document 02, item 7: "the clubs' invisibility is meant for histories without cuts").
-- "Fits, weighs and calls of one club, in the same order": the tenant sees the same of both.
-- "Where those fits and weighs and that club's writes are accepted or refused alike": the verdicts on these are the same.
-- "The club gets the same values, void counts and opened counts": it hears the same, reply by reply. That is the whole replies to its
-- lookups and deletes, refusal numbers included, the whole answers to its batches, mounts and order included, and of its writes,
-- of the add_servers and of the reweights all but the number of a refusal.
-- proofs/Theorem shows it for every capacity that start accepts.
pub record Isolation (tenant capacity salt n n' : ℕ) (calls calls' : List Call) : Type 0 where
  pub same : seen tenant calls ≡ seen tenant calls'
      → verdicts tenant (begin capacity salt n) calls ≡ verdicts tenant (begin capacity salt n') calls'
      → heard tenant (begin capacity salt n) calls ≡ heard tenant (begin capacity salt n') calls'
  pub counter : tenant < tenants → seen tenant calls ≡ seen tenant calls'
      → verdicts tenant (begin capacity salt n) calls ≡ verdicts tenant (begin capacity salt n') calls'
      → opened_of (after (begin capacity salt n) calls).table tenant ≡ opened_of (after (begin capacity salt n') calls').table tenant
