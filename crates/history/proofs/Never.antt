-- The ledger never refuses with 1, 7 or 10, a call or an id of a batch, so an archive that answers alike does not either.
-- Assumes nothing.
use Prim.Native.Nat.{ℕ, zero, suc}
use mathlib.Core.Path.{◌≡◌, refl, sym, ap, subst}
use mathlib.Core.Logic.{◌≢◌}
use mathlib.Core.Bool.{Bool, true, not, ◌&&◌}
use mathlib.Core.List.{List, [], ◌∷◌}
use Rattle.std.specs.Prelude.{Option, None, Some}
use lib.ListN.{length}
use lib.Dec.{ltb, eqb}
use borrow.Author.Tests.{not-true, eqb-false, ltb-false}
use Rattle.lists.specs.Below.{nth}
use Rattle.lists.proofs.Tests.{by_bool, and_l, and_r}
use Rattle.lists.proofs.Below.{nth-zeros}
use Rattle.replies.specs.Refusal.{Row, first_of, settle}
use Rattle.batch_answer.specs.Answer.{BatchReply, batch_by, too_long, settled_batch}
use Rattle.batch_answer.proofs.Filled.{filled-each}
use Rattle.history.specs.Call.{Call, add_server, reweight, write, delete, lookup, batch, Compared, compared}
use Rattle.history.specs.Machine.{State, reply, id_refusals, refusals}
use Rattle.history.specs.Ledger.{Ledger, Version, Entered, last_write_of, enter_by, add_server_rows_l, reweight_rows_l, asked_rows_l, write_rows_l, delete_rows_l, lookup_rows_l, last_write_reply, lookup_l, batch_rows_l, batch_l, rows_of, done_of, enter}
use Rattle.history.proofs.Entering.{entered}
use Rattle.history.proofs.Batches.{same-batch}
use Rattle.history.proofs.Run.{Agrees, step}

-- a number that a list of calls may meet
unfoldable usual : ℕ → Bool
usual n = not (eqb n 1) && (not (eqb n 7) && not (eqb n 10))

usual-is : (n : ℕ) → usual n ≡ true → (n ≢ 1) × (n ≢ 7) × (n ≢ 10)
unfolding usual
usual-is n u =
    let v = and_r (not (eqb n 1)) (not (eqb n 7) && not (eqb n 10)) u in (
      eqb-false n 1 (not-true _ (and_l (not (eqb n 1)) (not (eqb n 7) && not (eqb n 10)) u)),
      eqb-false n 7 (not-true _ (and_l (not (eqb n 7)) (not (eqb n 10)) v)),
      eqb-false n 10 (not-true _ (and_r (not (eqb n 7)) (not (eqb n 10)) v)),
    )

usual_rows : List Row → Bool
usual_rows [] = true
usual_rows (r ∷ rows) = usual r.number && usual_rows rows

first-usual : (rows : List Row) → usual_rows rows ≡ true → usual (first_of rows) ≡ true
unfolding usual_rows first_of usual
first-usual [] u = refl
first-usual (r ∷ rows) u = by_bool r.applies
    (λ d. rw d (and_l (usual r.number) (usual_rows rows) u))
    (λ d. rw d (first-usual rows (and_r (usual r.number) (usual_rows rows) u)))

entered-usual : (L : Ledger) (rows : List Row) (done : Entered) → usual_rows rows ≡ true → usual done.reply.refusal ≡ true → usual (enter_by L rows done).reply.refusal ≡ true
entered-usual L rows done u v = entered (λ e. usual e.reply.refusal ≡ true) L rows done (λ z. v) (λ f. first-usual rows u)

last-write-usual : (L : Ledger) (id : ℕ) (o : Option Version) → usual (last_write_reply L id o).refusal ≡ true
unfolding last_write_reply usual
last-write-usual L id None = refl
last-write-usual L id (Some x) = refl

enter-usual : (L : Ledger) (c : Call) → usual (enter L c).reply.refusal ≡ true
unfolding enter rows_of done_of add_server_rows_l reweight_rows_l asked_rows_l write_rows_l delete_rows_l lookup_rows_l batch_rows_l usual_rows usual
enter-usual L (add_server weight) = entered-usual L (add_server_rows_l L weight) _ refl refl
enter-usual L (reweight server weight) = entered-usual L (reweight_rows_l L server weight) _ refl refl
enter-usual L (write tenant id value) = entered-usual L (write_rows_l L tenant id value) _ refl refl
enter-usual L (delete tenant id) = entered-usual L (delete_rows_l L tenant id) _ refl refl
enter-usual L (lookup tenant id) = entered-usual L (lookup_rows_l L tenant id) _ refl (last-write-usual L id (last_write_of L.events id))
enter-usual L (batch tenant ids) = entered-usual L (batch_rows_l ids) _ refl refl

-- each id of a batch has the refusal of its lookup
ids-usual : (L : Ledger) (tenant : ℕ) (ids : List ℕ) (i : ℕ) → usual (nth (batch_l L tenant ids).refusals i) ≡ true
unfolding batch_l batch_by settled_batch batch_rows_l too_long settle first_of enter rows_of done_of usual
ids-usual L tenant ids i = by_bool (ltb 256 (length ids))
    (λ d. rw (d, nth-zeros 256 i))
    (λ d. rw d (filled-each (λ j. (lookup_l L tenant (nth ids j)).reply.refusal) (length ids) (ltb-false 256 (length ids) d)
    (λ (x : ℕ). usual x ≡ true) (λ j. enter-usual L (lookup tenant (nth ids j))) refl i))

-- of a state and a ledger that agree
module _ (S : State) (L : Ledger) (A : Agrees S L) where
  ids-never : (c : Call) (i : ℕ) → usual (nth (id_refusals S c) i) ≡ true
  unfolding id_refusals usual
  ids-never (add_server weight) i = refl
  ids-never (reweight server weight) i = refl
  ids-never (write tenant id value) i = refl
  ids-never (delete tenant id) i = refl
  ids-never (lookup tenant id) i = refl
  ids-never (batch tenant ids) i = subst (λ (b : BatchReply). usual (nth b.refusals i) ≡ true) (sym (same-batch A tenant ids)) (ids-usual L tenant ids i)

  pub never : (c : Call) (i : ℕ) → let number = nth (refusals S c) i in (number ≢ 1) × (number ≢ 7) × (number ≢ 10)
  unfolding refusals compared
  never c zero = usual-is (reply S c).refusal (rw (ap (λ (r : Compared). r.refusal) (step S L A c).alike) (enter-usual L c))
  never c (suc i) = usual-is (nth (id_refusals S c) i) (ids-never c i)
