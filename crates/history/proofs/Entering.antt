-- What a call makes of the ledger, accepted or refused, and what a crashed call does.
-- Assumes nothing.
use Prim.Native.Nat.{ℕ}
use mathlib.Core.Path.{◌≡◌}
use mathlib.Core.Bool.{Bool, true, false, cond}
use mathlib.Core.List.{List}
use lib.Dec.{eqb}
use borrow.Author.Tests.{eqb-true, eqb-false}
use Rattle.lists.proofs.Tests.{by_bool}
use Rattle.replies.specs.Refusal.{Row, first_of, settle}
use Rattle.replies.proofs.Refusals.{settle-either}
use Rattle.history.specs.Ledger.{wrote, removed, spent, Ledger, Entered, told, enter_by, with_event, target_l, write_rows_l, delete_rows_l, crashed_write_l, crashed_delete_l}

pub entered : (P : Entered → Type 0) (L : Ledger) (rows : List Row) (done : Entered)
    → (first_of rows ≡ 0 → P done)
    → ((first_of rows ≡ 0 → ⊥) → P (record { reply = told (first_of rows) 0 0 0; ledger = L }))
    → P (enter_by L rows done)
unfolding enter_by settle
entered P L rows done accepted refused = by_bool (eqb (first_of rows) 0)
    (λ d. rw d (accepted (eqb-true (first_of rows) 0 d)))
    (λ d. rw d (refused (eqb-false (first_of rows) 0 d)))

module _ (P : Ledger → Type 0) (L : Ledger) where
  pub crashed-write : (tenant id value : ℕ) (is_touched met : Bool) → P L
      → (first_of (write_rows_l L tenant id value) ≡ 0 → P (with_event L (spent (target_l L id))))
      → (first_of (write_rows_l L tenant id value) ≡ 0 → P (with_event L (wrote id value (target_l L id))))
      → P (crashed_write_l L tenant id value is_touched met)
  unfolding crashed_write_l
  crashed-write tenant id value is_touched met nothing vain happens = settle-either (write_rows_l L tenant id value) _ L P (λ z. go is_touched met (vain z) (happens z)) nothing
    where
      go : (b c : Bool) → P (with_event L (spent (target_l L id))) → P (with_event L (wrote id value (target_l L id)))
          → P (cond c (with_event L (wrote id value (target_l L id))) (cond b (with_event L (spent (target_l L id))) L))
      go b true v h = h
      go true false v h = v
      go false false v h = nothing

  pub crashed-delete : (tenant id : ℕ) (gone : Bool) → P L → (first_of (delete_rows_l L tenant id) ≡ 0 → P (with_event L (removed id))) → P (crashed_delete_l L tenant id gone)
  unfolding crashed_delete_l
  crashed-delete tenant id gone nothing happens = settle-either (delete_rows_l L tenant id) _ L P (λ z. go gone (happens z)) nothing
    where
      go : (b : Bool) → P (with_event L (removed id)) → P (cond b (with_event L (removed id)) L)
      go true h = h
      go false h = nothing
