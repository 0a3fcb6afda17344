-- The archive run over a list of turns, calls and crashed calls: each gets table and medium as the one before left them.
use Rattle.std.specs.Prelude.{ℕ, List, [], ◌∷◌, map, Bool, ◌&&◌, replicate, drop, ltb}
use Rattle.limits.specs.Limits.{content_range}
use Rattle.lists.specs.Below.{nth, count_below, total}
use Rattle.medium.specs.Word.{blank}
use Rattle.medium.specs.Entry.{entry_at, live}
use Rattle.table.specs.declared.Table.{Table}
use Rattle.table.specs.Parts.{used_of}
use Rattle.replies.specs.Refusal.{settle}
use Rattle.replies.specs.declared.Reply.{Reply}
use Rattle.replies.specs.Reply.{refused}
use Rattle.lookup.specs.Lookup.{lookup_reply, lookup_table}
use Rattle.deletion.specs.Deletion.{delete_rows, delete_burns, delete_reply, delete_medium, delete_some_medium}
use Rattle.planning.specs.WriteRows.{write_rows}
use Rattle.writing.specs.Writing.{write_burns, write_reply, write_table, write_medium, write_some_medium}
use Rattle.recovery.specs.Recovery.{recover_table}
use Rattle.servers.specs.Servers.{start_table, add_server_reply, add_server_table, reweight_reply, reweight_table}
use Rattle.batch_answer.specs.Answer.{BatchReply}
use Rattle.batch.specs.Batch.{batch_reply, batch_table}
use Rattle.history.specs.Beam.{Beam, under_beam}
use Rattle.history.specs.Call.{Call, add_server, reweight, write, delete, lookup, batch, Turn, plain, crashed_write, crashed_delete}

pub record State : Type 0 where
  pub table : Table
  pub medium : List ℕ

-- a batch in one reply: its refusal number
abbrev pub in_brief : BatchReply → Reply
in_brief b = refused b.refusal 0

unfoldable pub reply : State → Call → Reply
reply S (add_server weight) = add_server_reply S.table S.medium weight
reply S (reweight server weight) = reweight_reply S.table server weight
reply S (write tenant id value) = write_reply S.table S.medium tenant id value
reply S (delete tenant id) = delete_reply S.table S.medium tenant id
reply S (lookup tenant id) = lookup_reply S.table S.medium tenant id
reply S (batch tenant ids) = in_brief (batch_reply S.table S.medium tenant ids)

-- the refusal numbers of the ids of a batch; no other call has any
unfoldable pub id_refusals : State → Call → List ℕ
id_refusals S (add_server weight) = []
id_refusals S (reweight server weight) = []
id_refusals S (write tenant id value) = []
id_refusals S (delete tenant id) = []
id_refusals S (lookup tenant id) = []
id_refusals S (batch tenant ids) = (batch_reply S.table S.medium tenant ids).refusals

-- every refusal number that a call answers: its reply's, and those of the ids
unfoldable pub refusals : State → Call → List ℕ
refusals S c = (reply S c).refusal ∷ id_refusals S c

unfoldable pub next : State → Call → State
next S (add_server weight) = record { table = add_server_table S.table S.medium weight; medium = S.medium }
next S (reweight server weight) = record { table = reweight_table S.table server weight; medium = S.medium }
next S (write tenant id value) = record {
  table = write_table S.table S.medium tenant id value;
  medium = write_medium S.table S.medium tenant id value;
}
next S (delete tenant id) = record { table = S.table; medium = delete_medium S.table S.medium tenant id }
next S (lookup tenant id) = record { table = lookup_table S.table S.medium tenant id; medium = S.medium }
next S (batch tenant ids) = record { table = batch_table S.table S.medium tenant ids; medium = S.medium }

-- A crash, the paper's cut: the body at n burns, then the next burn's word as the beam left it. The table, which is kept off the
-- medium, stands as before. With n from the number of burns up all are made; of a call that is refused there are none

unfoldable pub crash_write : State → ℕ → ℕ → ℕ → ℕ → Beam → State
crash_write S tenant id value n beam = record {
  table = S.table;
  medium = settle (write_rows S.table S.medium tenant id value)
      (under_beam beam (drop n (write_burns S.table S.medium id value)) (write_some_medium S.table S.medium tenant id value n))
      S.medium;
}

unfoldable pub crash_delete : State → ℕ → ℕ → ℕ → Beam → State
crash_delete S tenant id n beam = record {
  table = S.table;
  medium = settle (delete_rows S.table S.medium tenant id)
      (under_beam beam (drop n (delete_burns S.table S.medium id)) (delete_some_medium S.table S.medium tenant id n))
      S.medium;
}

-- the recover made next
unfoldable pub recovered : State → State
recovered S = record { table = recover_table S.table S.medium; medium = S.medium }

unfoldable pub turned : State → Turn → State
turned S (plain c) = next S c
turned S (crashed_write tenant id value n beam) = recovered (crash_write S tenant id value n beam)
turned S (crashed_delete tenant id n beam) = recovered (crash_delete S tenant id n beam)

unfoldable pub after_turns : State → List Turn → State
after_turns S [] = S
after_turns S (x ∷ turns) = after_turns (turned S x) turns

-- the replies to the calls that did not crash
unfoldable pub turn_replies : State → List Turn → List Reply
turn_replies S [] = []
turn_replies S (plain c ∷ turns) = reply S c ∷ turn_replies (turned S (plain c)) turns
turn_replies S (crashed_write tenant id value n beam ∷ turns) = turn_replies (turned S (crashed_write tenant id value n beam)) turns
turn_replies S (crashed_delete tenant id n beam ∷ turns) = turn_replies (turned S (crashed_delete tenant id n beam)) turns

-- a list of calls is a list of turns in which nothing crashes
abbrev pub after : State → List Call → State
after S calls = after_turns S (map plain calls)

abbrev pub replies : State → List Call → List Reply
replies S calls = turn_replies S (map plain calls)

-- a started table over a lent medium, and over n blank words
abbrev pub start_state : ℕ → ℕ → List ℕ → State
start_state capacity salt m = record { table = start_table capacity salt; medium = m }

unfoldable pub begin : ℕ → ℕ → ℕ → State
begin capacity salt n = start_state capacity salt (replicate n blank)

-- the id word of entry j of server k, and whether the entry is live for it: it can be live for no other id
abbrev pub id_at : State → ℕ → ℕ → ℕ
id_at S k j = nth S.medium (entry_at S.table.capacity k j)

unfoldable pub live_for_its_id : State → ℕ → ℕ → Bool
live_for_its_id S k j = ltb (id_at S k j) content_range && live S.table.capacity (used_of S.table k) S.medium (id_at S k j) k j

-- the live entries of all ids together
unfoldable pub live_entries : State → ℕ
live_entries S = total (λ k. count_below (live_for_its_id S k) (used_of S.table k)) S.table.count
