-- What an encoded list of calls answers and leaves. Crate encoding's Encoding.antt says which word is which.
use Rattle.std.specs.Prelude.{ℕ, zero, suc, ◌<◌, ◌≡◌, List, [], ◌∷◌, ◌++◌, length, Option, None, Some}
use Rattle.lists.specs.Below.{nth}
use Rattle.medium.specs.Word.{blank}
use Rattle.replies.specs.Refusal.{settle}
use Rattle.replies.specs.declared.Reply.{Reply}
use Rattle.server_rows.specs.ServerRows.{start_rows}
use Rattle.calls.specs.declared.Call.{Call}
use Rattle.history.specs.Call.{Compared}
use Rattle.history.specs.Call as list
use Rattle.history.specs.Machine.{State, after}
use Rattle.history.specs.Ledger.{Ledger, fresh_ledger, told, enter, ledger_after}
use Rattle.encoding.specs.Encoding.{refusal_offset, server_offset, value_offset, opened_offset, room_for, reply_word, call_at, with_reply}
use Rattle.dispatch.specs.OneCall.{in_list, no_call_number, reply_to}

-- a list with one call more, where it is a call
unfoldable pub appended : List list.Call → Option Call → List list.Call
appended calls None = calls
appended calls (Some c) = calls ++ (in_list c ∷ [])

-- the calls among the first n encoded ones
unfoldable pub calls_below : List ℕ → ℕ → List list.Call
calls_below words zero = []
calls_below words (suc n) = appended (calls_below words n) (call_at words n)

-- the ledger's reply to a call, and to what is no call
unfoldable pub ledger_reply_to : Ledger → Option Call → Compared
ledger_reply_to L None = told no_call_number 0 0 0
ledger_reply_to L (Some c) = (enter L (in_list c)).reply

-- the words with the first n replies, and the rest as lent
unfoldable pub with_replies : (ℕ → Reply) → ℕ → List ℕ → List ℕ
with_replies f zero words = words
with_replies f (suc n) words = with_reply (with_replies f n words) n (f n)

-- the reply of the archive to call i of a list run from a state
unfoldable pub reply_at : State → List ℕ → ℕ → Reply
reply_at S calls i = reply_to (after S (calls_below calls i)) (call_at calls i)

-- how many calls are run on a started table: none where start refuses the capacity or the salt
unfoldable pub runs : ℕ → ℕ → List ℕ → List ℕ → ℕ
runs capacity salt calls replies = settle (start_rows capacity salt) (room_for (length calls) (length replies)) 0

-- the ledger's reply to call i
unfoldable pub ledger_reply_at : ℕ → ℕ → ℕ → List ℕ → ℕ → Compared
ledger_reply_at capacity salt n calls i = ledger_reply_to (ledger_after (fresh_ledger capacity salt n) (calls_below calls i)) (call_at calls i)

-- what is compared of reply i, by its words
abbrev pub compared_at : List ℕ → ℕ → Compared
compared_at words i = told (reply_word words i refusal_offset) (reply_word words i server_offset) (reply_word words i value_offset) (reply_word words i opened_offset)

-- on blank words the replies' refusal, server, value and opened are the plain ledger's
pub record LedgerWords (capacity salt : ℕ) (m calls : List ℕ) (n : ℕ) (replies : List ℕ) : Type 0 where
  pub alike : ((a : ℕ) → a < length m → nth m a ≡ blank)
      → (i : ℕ) → i < n → compared_at replies i ≡ ledger_reply_at capacity salt (length m) calls i
