-- Calls made one after another: each on the table and the medium as the call before left them, with words of its own for its
-- reply. They are a list of calls, so that what is shown of every list of calls holds of them.
use Rattle.std.specs.Prelude.{ℕ, cond, List, [], ◌∷◌, length, replicate, leb, Option, None, Some}
use Rattle.calls.specs.declared.Call.{Call}
use Rattle.history.specs.Call as list
use Rattle.encoding.specs.Encoding.{call_length, reply_length, call_at}
use Rattle.dispatch.specs.OneCall.{in_list}
use Rattle.call_words.specs.CallWords.{after_call}

-- table and medium as words
pub record Runs : Type 0 where
  pub table : List ℕ
  pub medium : List ℕ

-- the words of a reply before the call
abbrev pub unanswered : List ℕ
unanswered = replicate reply_length 0

unfoldable pub after_calls : Runs → List (List ℕ) → Runs
after_calls R [] = R
after_calls R (call ∷ calls) =
    let done = after_call R.table R.medium call unanswered in
    after_calls (record { table = done.table; medium = done.medium }) calls

-- the call that these words are: none where they are too few, or no call
unfoldable pub call_in : List ℕ → Option Call
call_in call = cond (leb call_length (length call)) (call_at call 0) None

-- the calls that they are, one after another
unfoldable pub joined : Option Call → List list.Call → List list.Call
joined None calls = calls
joined (Some c) calls = in_list c ∷ calls

unfoldable pub calls_of : List (List ℕ) → List list.Call
calls_of [] = []
calls_of (call ∷ calls) = joined (call_in call) (calls_of calls)
