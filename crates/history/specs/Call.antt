-- The turns of a list, calls and crashed calls; what the ledger hears of each; and what is compared of the replies.
use Rattle.std.specs.Prelude.{ℕ, Bool, List}
use Rattle.replies.specs.declared.Reply.{Reply}
use Rattle.history.specs.Beam.{Beam}

-- the calls with their arguments, first the caller's tenant where a call has one; start is none of them
pub data Call : Type 0 where
  add_server : ℕ → Call
  reweight : ℕ → ℕ → Call
  write : ℕ → ℕ → ℕ → Call
  delete : ℕ → ℕ → Call
  lookup : ℕ → ℕ → Call
  batch : ℕ → List ℕ → Call

-- a turn of a list: a call, or a write or a delete that a crash stopped, with the recover that is made next. A crashed call has the
-- number of burns that were made, any number, and what the beam left in the next word
pub data Turn : Type 0 where
  plain : Call → Turn
  crashed_write : ℕ → ℕ → ℕ → ℕ → Beam → Turn
  crashed_delete : ℕ → ℕ → ℕ → Beam → Turn

-- what the ledger is fed. Of a call it hears the arguments and nothing else. Of a crashed write it hears besides whether its target
-- entry is not wholly blank, and whether a lookup after the recover meets that entry; of a crashed delete, whether it meets none
pub data Heard : Type 0 where
  heard : Call → Heard
  heard_write : ℕ → ℕ → ℕ → Bool → Bool → Heard
  heard_delete : ℕ → ℕ → Bool → Heard

-- refusal number, server, value and opened count; one that a reply does not carry is 0
pub record Compared : Type 0 where
  pub refusal : ℕ
  pub server : ℕ
  pub value : ℕ
  pub opened : ℕ

unfoldable pub compared : Reply → Compared
compared r = record { refusal = r.refusal; server = r.server; value = r.value; opened = r.opened }
