-- The live entries of all ids together are at most the accepted and the crashed writes.
-- Assumes nothing.
use Prim.Native.Nat.{ℕ, zero, suc, ◌+◌, ◌≤◌}
use mathlib.Core.Bool.{cond}
use mathlib.Core.Path.{◌≡◌}
use mathlib.Core.List.{List, [], ◌∷◌}
use native.Mathlib.Omega.{arith}
use lib.Dec.{eqb}
use borrow.Author.Tests.{eqb-true, ne_eqb}
use Rattle.lists.specs.Below.{count_below, total}
use Rattle.lists.proofs.Tests.{by_bool}
use Rattle.lists.proofs.Below.{total-cong, count_below-le, total_mono}
use Rattle.table.specs.Parts.{used_of}
use Rattle.history.specs.Machine.{State, live_for_its_id, live_entries}
use Rattle.replies.specs.Refusal.{first_of, settle}
use Rattle.history.specs.Call.{Call, add_server, reweight, write, delete, lookup, batch, Heard, heard, heard_write, heard_delete}
use Rattle.history.specs.Ledger.{Event, wrote, removed, spent, Ledger, used_by, enter_by, with_server_l, with_weight_l, with_event, add_server_rows_l, reweight_rows_l, write_rows_l, delete_rows_l, lookup_rows_l, batch_rows_l, rows_of, done_of, enter, noted, ledger_by, takes_entry, may_take_entry, writes_by}
use Rattle.history.proofs.Entering.{crashed-write, crashed-delete}
use Rattle.history.proofs.Agree.{Agree}

-- a sum with one more at one place
one_more : (s : ℕ) (g : ℕ → ℕ) (n : ℕ) → total (λ k. cond (eqb s k) 1 0 + g k) n ≤ suc (total g n)
unfolding total
one_more s g zero = omega arith
one_more s g (suc n) = by_bool (eqb s n)
    (λ d. rw d (omega (arith, total-cong (λ k. cond (eqb s k) 1 0 + g k) g n (λ k l. rw (ne_eqb s k (λ e. omega (arith, eqb-true s n d))) (omega arith)))))
    (λ d. rw d (omega (arith, one_more s g n)))

total-zero : (n : ℕ) → total (used_by []) n ≤ 0
unfolding used_by total
total-zero zero = omega arith
total-zero (suc n) = omega (arith, total-zero n)

-- the entries that events take, writes and spent ones
unfoldable pub taken : List Event → ℕ
taken [] = 0
taken (wrote id value server ∷ older) = suc (taken older)
taken (removed id ∷ older) = taken older
taken (spent server ∷ older) = suc (taken older)

used-taken : (events : List Event) (n : ℕ) → total (used_by events) n ≤ taken events
unfolding used_by taken
used-taken [] n = total-zero n
used-taken (wrote id value server ∷ older) n = omega (arith, one_more server (used_by older) n, used-taken older n)
used-taken (removed id ∷ older) n = used-taken older n
used-taken (spent server ∷ older) n = omega (arith, one_more server (used_by older) n, used-taken older n)

live-taken : (S : State) (L : Ledger) → Agree S.table S.medium L → live_entries S ≤ taken L.events
unfolding live_entries
live-taken S L A =
    let t = S.table in
    omega (
      arith,
      used-taken L.events t.count,
      total_mono (λ k. count_below (live_for_its_id S k) (used_of t k)) (used_by L.events) t.count
          (λ k l. omega (arith, count_below-le (live_for_its_id S k) (used_of t k), A.used k l)),
    )

-- a call takes at most one entry, and only a write that is accepted takes one; a crashed write the same
enter-taken : (L : Ledger) (c : Call) → taken (enter L c).ledger.events ≤ taken L.events + takes_entry L c
unfolding enter rows_of done_of takes_entry with_server_l with_weight_l with_event enter_by settle taken
enter-taken L (add_server weight) = by_bool (eqb (first_of (add_server_rows_l L weight)) 0) (λ d. rw d (omega arith)) (λ d. rw d (omega arith))
enter-taken L (reweight server weight) = by_bool (eqb (first_of (reweight_rows_l L server weight)) 0) (λ d. rw d (omega arith)) (λ d. rw d (omega arith))
enter-taken L (write tenant id value) = by_bool (eqb (first_of (write_rows_l L tenant id value)) 0) (λ d. rw d (omega arith)) (λ d. rw d (omega arith))
enter-taken L (delete tenant id) = by_bool (eqb (first_of (delete_rows_l L tenant id)) 0) (λ d. rw d (omega arith)) (λ d. rw d (omega arith))
enter-taken L (lookup tenant id) = by_bool (eqb (first_of (lookup_rows_l L tenant id)) 0) (λ d. rw d (omega arith)) (λ d. rw d (omega arith))
enter-taken L (batch tenant ids) = by_bool (eqb (first_of (batch_rows_l ids)) 0) (λ d. rw d (omega arith)) (λ d. rw d (omega arith))

noted-taken : (L : Ledger) (x : Heard) → taken (noted L x).events ≤ taken L.events + may_take_entry L x
unfolding noted may_take_entry takes_entry with_event settle taken
noted-taken L (heard c) = enter-taken L c
noted-taken L (heard_write tenant id value b met) = crashed-write (λ M. taken M.events ≤ taken L.events + settle (write_rows_l L tenant id value) 1 0) L tenant id value b met
    (omega arith) (λ d. rw d (omega arith)) (λ d. rw d (omega arith))
noted-taken L (heard_delete tenant id gone) = crashed-delete (λ M. taken M.events ≤ taken L.events + 0) L tenant id gone (omega arith) (λ d. omega arith)

by-taken : (xs : List Heard) (L : Ledger) → taken (ledger_by L xs).events ≤ taken L.events + writes_by L xs
unfolding ledger_by writes_by
by-taken [] L = omega arith
by-taken (x ∷ xs) L = omega (arith, noted-taken L x, by-taken xs (noted L x))

pub live-writes : (S : State) (L : Ledger) (xs : List Heard) → taken L.events ≡ 0 → Agree S.table S.medium (ledger_by L xs) → live_entries S ≤ writes_by L xs
live-writes S L xs z A = omega (arith, live-taken S (ledger_by L xs) A, by-taken xs L)
