-- A batch step by step, for the contracts of the functions that run it: what one server makes of one id's part in it.
use Rattle.std.specs.Prelude.{ℕ, suc, cond, ◌&&◌, List, map, length, eqb, Option, None, Some}
use Rattle.lists.specs.Below.{nth, highest, set_below}
use Rattle.draws.specs.Draw.{modulus, draw_of}
use Rattle.placement.specs.declared.Fraction.{Fraction}
use Rattle.placement.specs.Fraction.{exceeds}
use Rattle.medium.specs.Entry.{live}
use Rattle.table.specs.declared.Shape.{Shape}
use Rattle.lookup.specs.Lookup.{met_reply}
use Rattle.replies.specs.declared.Reply.{Reply}
use Rattle.batch_begin.specs.declared.Parts.{Parts}
use Rattle.batch_begin.specs.Begin.{Columns}

-- How far the lookup of one id in a batch is: its number of each column.
pub record Progress : Type 0 where
  pub refusal : ℕ
  pub value : ℕ
  pub opened : ℕ
  pub end : ℕ

-- the same by the numbers of its answer so far and its end
abbrev pub progress_of : Reply → ℕ → Progress
progress_of r end = record { refusal = r.refusal; value = r.value; opened = r.opened; end = end }

-- one number of each reply that an answer so far stands for, as a column
unfoldable pub column_by : {A : Type 0} → (A → Reply) → (Reply → ℕ) → List A → List ℕ
column_by numbers part answers = map (λ a. part (numbers a)) answers

-- the columns of the parts whose answers so far have these numbers
abbrev pub columns_by : {A : Type 0} → (A → Reply) → Parts A → Columns
columns_by numbers parts = record {
  refusals = column_by numbers (λ r. r.refusal) parts.answers;
  values = column_by numbers (λ r. r.value) parts.answers;
  opened = column_by numbers (λ r. r.opened) parts.answers;
  ends = parts.ends;
}

-- server k is opened for an id, and `opened` is the number of servers opened with it; an entry there ends the search
unfoldable pub visited : ℕ → List ℕ → ℕ → ℕ → Option ℕ → Progress
visited capacity m k opened None = record { refusal = 8; value = 0; opened = opened; end = suc k }
visited capacity m k opened (Some j) =
    let r = met_reply capacity m opened (Some (record { server = k; entry = j })) in
    record { refusal = r.refusal; value = r.value; opened = opened; end = suc k }

-- server k, by its ReadP and its used in a table of this shape: it is opened if no entry of the id was met yet and it is read for
-- the id
unfoldable pub stepped : Fraction → Shape → ℕ → List ℕ → ℕ → ℕ → Progress → Progress
stepped read shape used m id k p =
    cond (eqb p.refusal 8 && exceeds modulus read (draw_of shape.salt id k))
    (visited shape.capacity m k (suc p.opened) (highest (live shape.capacity used m id k) used))
    p

-- the part of the id at position i
abbrev pub progress_at : Columns → ℕ → Progress
progress_at parts i = record { refusal = nth parts.refusals i; value = nth parts.values i; opened = nth parts.opened i; end = nth parts.ends i }

-- the parts with the first n given by f, and the rest as they are
unfoldable pub with_parts : (ℕ → Progress) → ℕ → Columns → Columns
with_parts f n parts = record {
  refusals = set_below (λ i. (f i).refusal) n parts.refusals;
  values = set_below (λ i. (f i).value) n parts.values;
  opened = set_below (λ i. (f i).opened) n parts.opened;
  ends = set_below (λ i. (f i).end) n parts.ends;
}

-- what server k makes of the part at position i, and of every part
unfoldable pub stepped_at : Fraction → Shape → ℕ → List ℕ → List ℕ → ℕ → Columns → ℕ → Progress
stepped_at read shape used m ids k parts i = stepped read shape used m (nth ids i) k (progress_at parts i)

unfoldable pub stepped_all : Fraction → Shape → ℕ → List ℕ → List ℕ → ℕ → Columns → Columns
stepped_all read shape used m ids k parts = with_parts (stepped_at read shape used m ids k parts) (length ids) parts
