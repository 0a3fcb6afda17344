-- A write or a delete with a number of burns on a table lent as words: what it answers, and what it leaves in each run of words. Any
-- other number is no call. Where a run is too short it answers a number that no call gives, and every run is left as lent.
use Rattle.std.specs.Prelude.{ℕ, List}
use Rattle.table_words.specs.Words.{with_table}
use Rattle.encoding.specs.Encoding.{burns_offset, call_word, call_at, with_reply_at}
use Rattle.dispatch.specs.SomeBurns.{some_reply, some_next}
use Rattle.call_words.specs.CallWords.{lent, AfterCall, where_fits}

-- the call is the one at the front of its words, with its burns among them
unfoldable pub after_some : List ℕ → List ℕ → List ℕ → List ℕ → AfterCall
after_some table m call reply =
    let S = lent table m in
    let o = call_at call 0 in
    let r = some_reply S o in
    let after = some_next S o (call_word call 0 burns_offset) in
    where_fits table m call reply
    (record { number = r.refusal; table = with_table table after.table; medium = after.medium; reply = with_reply_at reply 0 r })
