-- What a tenant hears tells what its counter takes: the opened counts of its lookups and batches are among it.
-- Assumes nothing.
use Prim.Native.Nat.{ℕ, ◌+◌, ◌<◌, min}
use mathlib.Core.Path.{◌≡◌, refl, sym, ap, ◌∙◌}
use mathlib.Core.Bool.{cond}
use mathlib.Core.List.{List, [], ◌∷◌, map}
use native.Mathlib.Omega.{arith}
use lib.Dec.{eqb}
use Rattle.limits.specs.Limits.{tenants, max_counter}
use Rattle.lists.proofs.Tests.{by_bool}
use Rattle.table.specs.Parts.{opened_of}
use Rattle.replies.proofs.Answers.{reply-unopened}
use Rattle.deletion.specs.Deletion.{delete_rows, delete_reply}
use Rattle.planning.specs.WriteRows.{write_rows}
use Rattle.writing.specs.Writing.{write_reply}
use Rattle.server_rows.specs.ServerRows.{add_server_rows, reweight_rows}
use Rattle.servers.specs.Servers.{add_server_reply, reweight_reply}
use Rattle.batch_answer.specs.Answer.{opened_in}
use Rattle.history.specs.Call.{Call, add_server, reweight, write, delete, lookup, batch, plain}
use Rattle.history.specs.Machine.{State, reply, next, turned, after, begin}
use Rattle.history.specs.Counters.{opened_to, opened_in_turn, opened_by}
use Rattle.history.proofs.Counters.{counters}
use Rattle.isolation.specs.Seen.{sees, shown, Shown, to_call, to_batch, shown_by, heard}

-- the opened counts in what is heard
unfoldable opened_heard : Shown → ℕ
opened_heard (to_call r) = r.opened
opened_heard (to_batch b) = opened_in b

unfoldable opened_in-all : List Shown → ℕ
opened_in-all [] = 0
opened_in-all (h ∷ hs) = opened_heard h + opened_in-all hs

module _ (tenant : ℕ) where
  -- a call that the tenant may see, with no opened count
  none-heard : (caller : ℕ) (x : ℕ) → x ≡ 0 → cond (eqb caller tenant) x 0 ≡ 0
  none-heard caller x e = by_bool (eqb caller tenant) (λ d. rw d e) (λ d. rw d)

  call-heard : (S : State) (c : Call) → cond (sees tenant c) (opened_heard (shown_by S c)) 0 ≡ opened_to tenant S c
  unfolding sees shown_by shown opened_heard opened_to reply add_server_reply reweight_reply write_reply delete_reply
  call-heard S (add_server weight) = reply-unopened (add_server_rows S.table S.medium weight) _ refl
  call-heard S (reweight server weight) = reply-unopened (reweight_rows S.table server weight) _ refl
  call-heard S (write caller id value) = none-heard caller _ (reply-unopened (write_rows S.table S.medium caller id value) _ refl)
  call-heard S (delete caller id) = none-heard caller _ (reply-unopened (delete_rows S.table S.medium caller id) _ refl)
  call-heard S (lookup caller id) = refl
  call-heard S (batch caller ids) = refl

  all-heard : (calls : List Call) (S : State) → opened_in-all (heard tenant S calls) ≡ opened_by tenant S (map plain calls)
  unfolding opened_in-all heard opened_by opened_in_turn turned
  all-heard [] S = refl
  all-heard (c ∷ calls) S = by_bool (sees tenant c)
      (λ s.
      let one : opened_heard (shown_by S c) ≡ opened_to tenant S c = rw s at (call-heard S c) in
      rw (s, one, all-heard calls (next S c)))
      (λ s.
      let one : 0 ≡ opened_to tenant S c = rw s at (call-heard S c) in
      rw (s, ← one, all-heard calls (next S c)) (omega arith))

  -- where the same is heard, the counters are the same
  pub counter-heard : tenant < tenants → (capacity salt n n' : ℕ) (calls calls' : List Call)
      → heard tenant (begin capacity salt n) calls ≡ heard tenant (begin capacity salt n') calls'
      → opened_of (after (begin capacity salt n) calls).table tenant ≡ opened_of (after (begin capacity salt n') calls').table tenant
  unfolding begin
  counter-heard l capacity salt n n' calls calls' e =
      let same = sym (all-heard calls (begin capacity salt n)) ∙ ap opened_in-all e ∙ all-heard calls' (begin capacity salt n') in
      (counters capacity salt _ (map plain calls)).counter tenant l ∙ ap (min max_counter) same ∙ sym ((counters capacity salt _ (map plain calls')).counter tenant l)
