-- The parts of a batch before any server is opened, for the contracts of the functions that begin it.
use Rattle.std.specs.Prelude.{ℕ, cond, List, replicate, eqb}
use Rattle.limits.specs.Limits.{max_ids}
use Rattle.lists.specs.Below.{nth}
use Rattle.tenants.specs.Tenant.{out_of_range, of_another}
use Rattle.replies.specs.declared.LookupAnswer.{LookupAnswer}
use Rattle.batch_answer.specs.Answer.{filled, refusals_of, values_of, opened_counts_of}
use Rattle.batch_begin.specs.declared.Parts.{Parts}

-- How far the lookups of all ids are, as columns of numbers in the order of the ids. A refusal is 8 while no entry was met, and an end
-- is one more than the last server opened for the id, or 0.
pub record Columns : Type 0 where
  pub refusals : List ℕ
  pub values : List ℕ
  pub opened : List ℕ
  pub ends : List ℕ

-- the columns of the parts
abbrev pub columns_of : Parts LookupAnswer → Columns
columns_of parts = record { refusals = refusals_of parts.answers; values = values_of parts.answers; opened = opened_counts_of parts.answers; ends = parts.ends }

-- the refusal of an id for which no entry was met yet: it is 8, absent, unless a test has refused the id already
unfoldable pub absent_so_far : ℕ → ℕ
absent_so_far number = cond (eqb number 0) 8 number

-- the refusal of an id before any server is opened. `number` is what the tests say of an id in range that is the caller's own; for
-- another id they differ by its range and its tenant alone, right after the table's soundness
unfoldable pub first_refusal : ℕ → ℕ → ℕ → ℕ
first_refusal number tenant id =
    cond (eqb number 1) 1
    (cond (out_of_range tenant id) 2
    (cond (of_another tenant id) 11
    (absent_so_far number)))

-- the columns of the first n ids before any server is opened
unfoldable pub first_parts : ℕ → ℕ → List ℕ → ℕ → Columns
first_parts number tenant ids n = record {
  refusals = filled (λ i. first_refusal number tenant (nth ids i)) n;
  values = replicate max_ids 0;
  opened = replicate max_ids 0;
  ends = replicate max_ids 0;
}
