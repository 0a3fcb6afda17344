-- The answer to a batch of lookups, the paper's payout run (document 02, item 1), of up to 256 ids: what each lookup answers, how
-- many servers are opened for all of them together, and the order in which they are found. The archive's batch and the plain
-- ledger's are both put together here, from plain numbers: nothing here knows a table or a medium.
use Rattle.std.specs.Prelude.{ℕ, zero, suc, ◌+◌, ◌<◌, ◌≡◌, Bool, cond, not, ◌&&◌, map, length, replicate, ltb, eqb, Result, Ok, Err}
use mathlib.Core.List.{List, [], ◌∷◌, ◌++◌, Memᴰ}
use Rattle.std.proofs.lemmas.List.Edits.{sets}
use Rattle.limits.specs.Limits.{max_ids}
use Rattle.lists.specs.Below.{nth, some_below, upward, count_below, total, set_below}
use Rattle.replies.specs.declared.Refusal.{Refusal}
use Rattle.replies.specs.declared.Reply.{Reply}
use Rattle.replies.specs.declared.LookupAnswer.{LookupAnswer}
use Rattle.replies.specs.Refusal.{Row, first_of, settle}
use Rattle.replies.specs.Reply.{number_of, reply_of_lookup}
use Rattle.batch_answer.specs.declared.Batch.{Batch}

-- A whole answer in document 01's numbers. Refusal 0 is acceptance. `refusals`, `values` and `opened` have for each id, in the ids'
-- order, what its lookup answers, and `order` has the ids' positions in the order of finding; after that each list is 0. `mounts` is
-- the number of servers opened for all ids together.
pub record BatchReply : Type 0 where
  pub refusal : ℕ
  pub mounts : ℕ
  pub refusals : List ℕ
  pub values : List ℕ
  pub opened : List ℕ
  pub order : List ℕ

-- Here `opened i k` says whether server k is opened for the id at position i, below n; count is the number of servers.

-- how many servers are opened for some position
unfoldable pub mounts : (ℕ → ℕ → Bool) → ℕ → ℕ → ℕ
mounts opened n count = count_below (λ k. some_below (λ i. opened i k) n) count

-- a search ends at server k: it is opened, and none below it
unfoldable pub ends_at : (ℕ → Bool) → ℕ → Bool
ends_at opened k = opened k && not (some_below opened k)

-- the positions whose search ends at a server below count: the highest server first, and on one server the lowest position first
unfoldable pub by_end : (ℕ → ℕ → Bool) → ℕ → ℕ → List ℕ
by_end opened n zero = []
by_end opened n (suc k) = upward (λ i. ends_at (opened i) k) n ++ by_end opened n k

-- the order of finding: the positions for which no server is opened come before all others
unfoldable pub order : (ℕ → ℕ → Bool) → ℕ → ℕ → List ℕ
order opened n count = upward (λ i. not (some_below (opened i) count)) n ++ by_end opened n count

-- how often a number stands in a list
unfoldable pub occurrences : ℕ → List ℕ → ℕ
occurrences i [] = 0
occurrences i (x ∷ xs) = cond (eqb x i) 1 0 + occurrences i xs

-- each number below n stands there once, and no other
pub record EachOnce (n : ℕ) (xs : List ℕ) : Type 0 where
  pub within : (i : ℕ) → Memᴰ i xs → i < n
  pub once : (i : ℕ) → i < n → occurrences i xs ≡ 1

-- i stands before j in a list
pub record Before (i j : ℕ) (xs : List ℕ) : Type 0 where
  pub front : List ℕ
  pub back : List ℕ
  pub split : xs ≡ front ++ back
  pub first : Memᴰ i front
  pub later : Memᴰ j back

-- an array of 256 numbers: f i below n, and 0 from there on
unfoldable pub filled : (ℕ → ℕ) → ℕ → List ℕ
filled f n = set_below f n (replicate max_ids 0)

-- the answer to n ids: refusal, value and opened count by position, and which servers are opened for which
unfoldable pub batch_by : (ℕ → ℕ) → (ℕ → ℕ) → (ℕ → ℕ) → (ℕ → ℕ → Bool) → ℕ → ℕ → BatchReply
batch_by refusal value number opened n count = record {
  refusal = 0;
  mounts = mounts opened n count;
  refusals = filled refusal n;
  values = filled value n;
  opened = filled number n;
  order = sets (replicate max_ids 0) 0 (order opened n count);
}

-- the answer to a list that is refused as a whole: no id is answered
abbrev pub refused_batch : ℕ → BatchReply
refused_batch number = record {
  refusal = number;
  mounts = 0;
  refusals = replicate max_ids 0;
  values = replicate max_ids 0;
  opened = replicate max_ids 0;
  order = replicate max_ids 0;
}

-- the opened counts of all ids together
unfoldable pub opened_in : BatchReply → ℕ
opened_in b = total (nth b.opened) max_ids

-- a list of more than 256 ids is out of range; every other one is answered id by id
unfoldable pub too_long : List ℕ → Bool
too_long ids = ltb max_ids (length ids)

-- the answer by the rows that refuse a list as a whole
unfoldable pub settled_batch : List Row → BatchReply → BatchReply
settled_batch rows done = settle rows done (refused_batch (first_of rows))

-- one number of each reply to a lookup, as a column
unfoldable pub column : (Reply → ℕ) → List LookupAnswer → List ℕ
column part answers = map (λ a. part (reply_of_lookup a)) answers

abbrev pub refusals_of : List LookupAnswer → List ℕ
refusals_of answers = column (λ r. r.refusal) answers

abbrev pub values_of : List LookupAnswer → List ℕ
values_of answers = column (λ r. r.value) answers

abbrev pub opened_counts_of : List LookupAnswer → List ℕ
opened_counts_of answers = column (λ r. r.opened) answers

-- the answer in numbers, of a list that is answered id by id and of one that is refused as a whole
unfoldable pub reply_of_batch : Result Batch Refusal → BatchReply
reply_of_batch (Ok b) = record {
  refusal = 0;
  mounts = b.mounts;
  refusals = refusals_of b.answers;
  values = values_of b.answers;
  opened = opened_counts_of b.answers;
  order = b.order;
}
reply_of_batch (Err r) = refused_batch (number_of r)
