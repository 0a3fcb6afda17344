-- One call on a table lent as words: what it answers, and what it leaves in each run of words. Where a run is too short it answers
-- a number that no call gives, and every run is left as lent.
use Rattle.std.specs.Prelude.{ℕ, ◌+◌, Bool, cond, ◌&&◌, List, ◌++◌, length, take, drop, leb}
use Rattle.limits.specs.Limits.{max_servers}
use Rattle.table_words.specs.Words.{table_length, table_from, with_table}
use Rattle.encoding.specs.Encoding.{call_length, reply_length, too_short, call_at, with_reply_at}
use Rattle.dispatch.specs.OneCall.{reply_to, next_by}
use Rattle.history.specs.Machine.{State}

-- a lent table over a lent medium
abbrev pub lent : List ℕ → List ℕ → State
lent words m = record { table = table_from words; medium = m }

-- the refusal number, and table, medium and reply after the call
pub record AfterCall : Type 0 where
  pub number : ℕ
  pub table : List ℕ
  pub medium : List ℕ
  pub reply : List ℕ

unfoldable pub fits_call : List ℕ → List ℕ → List ℕ → Bool
fits_call table call reply = leb table_length (length table) && (leb call_length (length call) && leb reply_length (length reply))

-- what is done where every run is long enough
abbrev pub where_fits : List ℕ → List ℕ → List ℕ → List ℕ → AfterCall → AfterCall
where_fits table m call reply done =
    cond (fits_call table call reply) done
    (record { number = too_short; table = table; medium = m; reply = reply })

-- the call is the one at the front of its words
unfoldable pub after_call : List ℕ → List ℕ → List ℕ → List ℕ → AfterCall
after_call table m call reply =
    let S = lent table m in
    let r = reply_to S (call_at call 0) in
    let after = next_by S (call_at call 0) in
    where_fits table m call reply
    (record { number = r.refusal; table = with_table table after.table; medium = after.medium; reply = with_reply_at reply 0 r })

-- the words with another column from a word on
unfoldable pub with_column : List ℕ → ℕ → List ℕ → List ℕ
with_column words at column = take at words ++ (column ++ drop (at + max_servers) words)
