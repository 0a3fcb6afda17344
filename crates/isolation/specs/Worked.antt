-- Document 01's worked example for tenant 4, its first lookup in a batch: alone, and among a neighbour's calls, refused ones
-- included, over a longer medium. And why the verdicts must be the same: one server of one entry, which a neighbour's write fills.
use Rattle.std.specs.Prelude.{◌≡◌, true, false, List, [], ◌∷◌, replicate}
use Rattle.table.specs.Parts.{opened_of}
use Rattle.replies.specs.Reply.{refused, on_server, found}
use Rattle.batch_answer.specs.Answer.{BatchReply}
use Rattle.history.specs.Call.{Call, add_server, reweight, write, delete, lookup, batch}
use Rattle.history.specs.Machine.{after, begin}
use Rattle.isolation.specs.Seen.{Shown, to_call, to_batch, seen, verdicts, heard}

unfoldable pub alone : List Call
alone =
    add_server 1
    ∷ add_server 0
    ∷ add_server 2
    ∷ write 4 626627286 500
    ∷ batch 4 (626627286 ∷ 5 ∷ [])
    ∷ reweight 0 2
    ∷ write 4 626627286 740
    ∷ lookup 4 626627286
    ∷ delete 4 626627286
    ∷ lookup 4 626627286
    ∷ []

-- tenant 0 writes an id of its own twice and deletes it, and in between tries to delete tenant 4's
unfoldable pub among : List Call
among =
    add_server 1
    ∷ add_server 0
    ∷ add_server 2
    ∷ write 0 5 9
    ∷ write 0 5 8
    ∷ write 4 626627286 500
    ∷ delete 0 626627286
    ∷ batch 4 (626627286 ∷ 5 ∷ [])
    ∷ reweight 0 2
    ∷ write 4 626627286 740
    ∷ delete 0 5
    ∷ lookup 4 626627286
    ∷ delete 4 626627286
    ∷ lookup 4 626627286
    ∷ []

-- tenant 4's batch of its own id and of tenant 0's: for the second, 11, no server is opened, and it comes first in the order
unfoldable pub both : BatchReply
both = record {
  refusal = 0;
  mounts = 1;
  refusals = 0 ∷ 11 ∷ replicate 254 0;
  values = 500 ∷ 0 ∷ replicate 254 0;
  opened = 1 ∷ 0 ∷ replicate 254 0;
  order = 1 ∷ 0 ∷ replicate 254 0;
}

unfoldable pub own_replies : List Shown
own_replies =
    to_call (on_server 0 0)
    ∷ to_call (on_server 1 0)
    ∷ to_call (on_server 2 0)
    ∷ to_call (on_server 2 0)
    ∷ to_batch both
    ∷ to_call (on_server 0 0)
    ∷ to_call (on_server 0 1)
    ∷ to_call (found 740 2)
    ∷ to_call (on_server 0 1)
    ∷ to_call (refused 8 2)
    ∷ []

-- tenant 0's attempt gets 11
unfoldable pub neighbours : List Shown
neighbours =
    to_call (on_server 0 0)
    ∷ to_call (on_server 1 0)
    ∷ to_call (on_server 2 0)
    ∷ to_call (on_server 2 0)
    ∷ to_call (on_server 2 1)
    ∷ to_call (refused 11 0)
    ∷ to_call (on_server 0 0)
    ∷ to_call (on_server 0 1)
    ∷ []

-- the tenant's write is accepted alone, and refused after the neighbour's
unfoldable pub spared : List Call
spared = add_server 1 ∷ write 4 626627286 500 ∷ lookup 4 626627286 ∷ []

unfoldable pub crowded : List Call
crowded = add_server 1 ∷ write 0 5 9 ∷ write 4 626627286 500 ∷ lookup 4 626627286 ∷ []

pub record Worked : Type 0 where
  pub seen_same : seen 4 alone ≡ seen 4 among
  pub verdicts_same : verdicts 4 (begin 4 0 36) alone ≡ verdicts 4 (begin 4 0 40) among
  pub heard_alone : heard 4 (begin 4 0 36) alone ≡ own_replies
  pub heard_among : heard 4 (begin 4 0 40) among ≡ own_replies
  pub heard_by_other : heard 0 (begin 4 0 40) among ≡ neighbours
  -- one server for the batch, two, and two before the refusal
  pub counter_alone : opened_of (after (begin 4 0 36) alone).table 4 ≡ 5
  pub counter_among : opened_of (after (begin 4 0 40) among).table 4 ≡ 5
  -- the same is seen, but the write is not accepted in both, and another answer is heard; `refused 0 0` shows no number
  pub seen_alike : seen 4 spared ≡ seen 4 crowded
  pub verdicts_spared : verdicts 4 (begin 1 0 3) spared ≡ true ∷ true ∷ []
  pub verdicts_crowded : verdicts 4 (begin 1 0 3) crowded ≡ true ∷ false ∷ []
  pub heard_spared : heard 4 (begin 1 0 3) spared ≡ to_call (on_server 0 0) ∷ to_call (on_server 0 0) ∷ to_call (found 500 1) ∷ []
  pub heard_crowded : heard 4 (begin 1 0 3) crowded ≡ to_call (on_server 0 0) ∷ to_call (refused 0 0) ∷ to_call (refused 8 1) ∷ []
