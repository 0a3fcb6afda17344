-- What the image of a table is for (document 02, item 6): an archive whose table was carried as its image, and read again, goes on as
-- if it had not been.
use Rattle.std.specs.Prelude.{ℕ, ◌≡◌, List}
use Rattle.table.specs.declared.Table.{Table}
use Rattle.batch.specs.Batch.{batch_reply}
use Rattle.history.specs.Call.{Turn}
use Rattle.history.specs.Machine.{State, after_turns, turn_replies}
use Rattle.image.specs.Layout.{image_of}
use Rattle.image.specs.Decoding.{decode_table}
use Rattle.image.specs.Promises.{EqualBelow}

-- a table over a medium, and the table read from its image over the same
abbrev pub kept : Table → List ℕ → State
kept t m = record { table = t; medium = m }

abbrev pub carried : Table → List ℕ → State
carried t m = kept (decode_table (image_of t)) m

-- every list of turns, crashed calls among them, gets the same replies on both, leaves the same medium, and leaves tables that are
-- equal below the count and so have the same image; a batch after the list gets the same answer
pub record Carried (t : Table) (m : List ℕ) (turns : List Turn) : Type 0 where
  pub same : turn_replies (carried t m) turns ≡ turn_replies (kept t m) turns
  pub batches : (tenant : ℕ) (ids : List ℕ)
      → let S = after_turns (kept t m) turns in
      let C = after_turns (carried t m) turns in
      batch_reply C.table C.medium tenant ids ≡ batch_reply S.table S.medium tenant ids
  pub medium : (after_turns (carried t m) turns).medium ≡ (after_turns (kept t m) turns).medium
  pub equal : EqualBelow (after_turns (carried t m) turns).table (after_turns (kept t m) turns).table
  pub image : image_of (after_turns (carried t m) turns).table ≡ image_of (after_turns (kept t m) turns).table
