-- A start by its answer, and the table that it gives.
-- Assumes nothing.
use Prim.Native.Nat.{ℕ, ◌<◌}
use mathlib.Core.Path.{◌≡◌, refl, sym, ap, ◌∙◌}
use mathlib.Core.Logic.{◌≢◌}
use native.Mathlib.Omega.{arith}
use Rattle.std.specs.Prelude.{Result, Ok, Err}
use Rattle.table.specs.declared.Table.{Table}
use Rattle.table.proofs.Soundness.{Arrays, empty-arrays}
use Rattle.replies.specs.Refusal.{first_of}
use Rattle.replies.specs.declared.Refusal.{Refusal}
use Rattle.replies.specs.declared.Reply.{Reply}
use Rattle.replies.specs.Reply.{reply_of_check}
use Rattle.replies.proofs.Refusals.{settle-either}
use Rattle.replies.proofs.Answers.{number-not-zero, reply-number}
use Rattle.server_rows.specs.ServerRows.{start_rows}
use Rattle.servers.specs.Servers.{start_reply, start_table}

module _ (capacity salt : ℕ) where
  pub start-number : (start_reply capacity salt).refusal ≡ first_of (start_rows capacity salt)
  unfolding start_reply
  start-number = reply-number (start_rows capacity salt) _ refl

  -- its answer, matched on
  module _ {A : Type 0} {c : Result A Refusal} (is : reply_of_check c ≡ start_reply capacity salt) where
    pub start-accepted : {t : A} → c ≡ Ok t → first_of (start_rows capacity salt) ≡ 0
    unfolding reply_of_check
    start-accepted e = sym (ap (λ (r : Reply). r.refusal) (sym (ap reply_of_check e) ∙ is) ∙ start-number)

    pub start-refused : {x : Refusal} → c ≡ Err x → first_of (start_rows capacity salt) ≢ 0
    unfolding reply_of_check
    start-refused {x} e z = number-not-zero x (ap (λ (r : Reply). r.refusal) (sym (ap reply_of_check e) ∙ is) ∙ start-number ∙ z)

  -- its table, accepted or refused
  pub start-arrays : Arrays (start_table capacity salt)
  unfolding start_table
  start-arrays = settle-either (start_rows capacity salt) _ _ Arrays (λ _. empty-arrays capacity salt) (empty-arrays 0 0)

  pub start-count : (t : Table) → t ≡ start_table capacity salt → t.count < 4294967296
  unfolding start_table
  start-count t e = rw e (settle-either (start_rows capacity salt) _ _ (λ (u : Table). u.count < 4294967296) (λ _. omega arith) (omega arith))
