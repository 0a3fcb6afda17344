-- Document 01's worked example, its calls by the tenant of its id: the ledger's replies, the archive's, the counters, and words 24
-- to 26.
use Rattle.std.specs.Prelude.{ℕ, ◌≡◌, List, [], ◌∷◌, map}
use Rattle.lists.specs.Below.{nth}
use Rattle.replies.specs.declared.Reply.{Reply}
use Rattle.replies.specs.Reply.{refused, on_server, found}
use Rattle.history.specs.Call.{Call, add_server, reweight, write, delete, lookup, compared}
use Rattle.history.specs.Machine.{after, replies, begin}
use Rattle.history.specs.Ledger.{fresh_ledger, ledger_replies}

unfoldable pub calls : List Call
calls =
    add_server 1
    ∷ add_server 0
    ∷ add_server 2
    ∷ write 4 626627286 500
    ∷ lookup 4 626627286
    ∷ reweight 0 2
    ∷ write 4 626627286 740
    ∷ lookup 4 626627286
    ∷ delete 4 626627286
    ∷ lookup 4 626627286
    ∷ []

-- the paper's lines: F server, W server and invalidated, L value and opened, G server, D invalidated
unfoldable pub expected : List Reply
expected =
    on_server 0 0
    ∷ on_server 1 0
    ∷ on_server 2 0
    ∷ on_server 2 0
    ∷ found 500 1
    ∷ on_server 0 0
    ∷ on_server 0 1
    ∷ found 740 2
    ∷ on_server 0 1
    ∷ refused 8 2
    ∷ []

-- tenant 4's lookups opened one server, two, and two before the refusal
unfoldable pub counters : List ℕ
counters = 0 ∷ 0 ∷ 0 ∷ 0 ∷ 5 ∷ 0 ∷ 0 ∷ 0 ∷ []

-- a table of 4 entries a server and salt 0 over n blank words; proofs/Example shows it for every n of 36 or more, the words of
-- three servers
pub record Example (n : ℕ) : Type 0 where
  pub machine : replies (begin 4 0 n) calls ≡ expected
  pub ledger : ledger_replies (fresh_ledger 4 0 n) calls ≡ map compared expected
  pub counted : (after (begin 4 0 n) calls).table.counters ≡ counters
  pub word24 : nth (after (begin 4 0 n) calls).medium 24 ≡ 626627286
  pub word25 : nth (after (begin 4 0 n) calls).medium 25 ≡ 1073742324
  pub word26 : nth (after (begin 4 0 n) calls).medium 26 ≡ 2147483649
