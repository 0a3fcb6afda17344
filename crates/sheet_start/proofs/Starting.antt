-- A start on a sheet: the words that one that is accepted blanks, what it prints, and the sheet after it.
-- Assumes nothing.
use Prim.Native.Nat.{ℕ}
use mathlib.Core.Path.{◌≡◌, sym, ap, ◌∙◌}
use mathlib.Core.List.{List}
use Rattle.std.specs.Prelude.{Option, Some, Result, Ok, Err}
use Rattle.std.specs.Result.{result_unwrap_or}
use lib.ListN.{length, replicate}
use Rattle.medium.specs.Word.{blank}
use Rattle.table.specs.declared.Table.{Table}
use Rattle.replies.specs.declared.Reply.{Reply}
use Rattle.replies.specs.declared.Refusal.{Refusal}
use Rattle.replies.specs.Reply.{check_number, reply_of_check}
use Rattle.replies.proofs.Answers.{number_of_reply}
use Rattle.table.specs.Parts.{empty}
use Rattle.replies.proofs.Refusals.{settle-yes, settle-no}
use Rattle.server_rows.specs.ServerRows.{start_rows}
use Rattle.servers.specs.Servers.{start_reply, start_table}
use Rattle.servers.proofs.Starts.{start-refused as was-refused, start-accepted as was-accepted}
use Rattle.letters.specs.Letter.{start_letter}
use Rattle.printing.specs.Print.{printed}
use Rattle.sheet_start.specs.SheetStart.{sheet_of, start_run, sheet_salt}

-- a start, by what it answers: refused and accepted
module _ (u : Option Table) (m : List ℕ) (capacity n : ℕ) (a : Result Table Refusal) (e : n ≡ check_number a) (f : reply_of_check a ≡ start_reply capacity sheet_salt) where
  bytes : printed start_letter (start_reply capacity sheet_salt).refusal 0 0 ≡ printed start_letter n 0 0
  bytes = ap (λ (x : ℕ). printed start_letter x 0 0) (sym (e ∙ number_of_reply a ∙ ap (λ (y : Reply). y.refusal) f))

  pub start-refused : {r : Refusal} → a ≡ Err r → start_run (sheet_of u m) capacity ≡ record { bytes = printed start_letter n 0 0; sheet = sheet_of u m }
  unfolding start_run
  start-refused g = rw (bytes, settle-no (start_rows capacity sheet_salt) _ _ (was-refused capacity sheet_salt f g))

  pub start-accepted : {t : Table} → a ≡ Ok t → result_unwrap_or a (empty 0 0) ≡ start_table capacity sheet_salt → (m' : List ℕ) → m' ≡ replicate (length m) blank
      → start_run (sheet_of u m) capacity ≡ record { bytes = printed start_letter n 0 0; sheet = record { table = Some t; medium = m' } }
  unfolding start_run
  start-accepted {t} g h m' em =
      let et : t ≡ start_table capacity sheet_salt = rw g at h in
      rw (bytes, settle-yes (start_rows capacity sheet_salt) _ _ (was-accepted capacity sheet_salt f g), et, em)
