-- A delete on both sides.
-- Assumes nothing.
use Prim.Native.Nat.{ℕ, ◌<◌}
use mathlib.Core.Bool.{true, false, not}
use mathlib.Core.Path.{◌≡◌, refl, ap, ◌∙◌}
use mathlib.Core.List.{List, []}
use Rattle.std.specs.Prelude.{Option, None, Some}
use borrow.Author.Tests.{not-false}
use Rattle.limits.specs.Limits.{content_range}
use Rattle.medium.specs.Word.{deleted}
use Rattle.medium.specs.Burn.{burn_all, invalidations}
use Rattle.medium.proofs.Burns.{length-burn_all}
use Rattle.table.specs.declared.Table.{Table}
use Rattle.table.specs.Parts.{reads}
use Rattle.replies.specs.Refusal.{first_of}
use Rattle.replies.proofs.Refusals.{passed, passed-both, settle-yes, settle-no, first-same, more_same}
use Rattle.search.specs.Search.{search_for}
use Rattle.checks.proofs.Passed.{asked-numbered, asked-accepted}
use Rattle.deletion.proofs.Done.{delete-all, delete-ready}
use Rattle.deletion.specs.Deletion.{is_met, delete_rows, delete_burns, delete_reply, delete_medium}
use Rattle.history.specs.Call.{delete, compared}
use Rattle.history.specs.Ledger.{removed, Ledger, Version, used_by, last_write_of, is_written, with_event, delete_rows_l, rows_of, done_of, enter, reads_l}
use Rattle.history.proofs.Events.{place_of, came-placed, none-placed}
use Rattle.history.proofs.DeletedMedium.{burns_of, delete-holds}
use Rattle.history.proofs.Agree.{Agree, Step, settled, same_asked, ledger-numbered, same_reads, same-marks, same_met}

module _ {t : Table} {m : List ℕ} {L : Ledger} (A : Agree t m L) (id : ℕ) where
  same-is_met : id < content_range → is_met (search_for t m id).met ≡ is_written (last_write_of L.events id)
  unfolding is_met is_written
  same-is_met n = ap is_met (same_met A id n) ∙ go (last_write_of L.events id) refl
    where
      go : (o : Option Version) → last_write_of L.events id ≡ o → is_met (place_of L.events id) ≡ is_written o
      go None e = rw (none-placed L.events id e)
      go (Some x) e = rw (came-placed L.events id x e)

  pub same_rows : (tenant : ℕ) → first_of (delete_rows t m tenant id) ≡ first_of (delete_rows_l L tenant id)
  unfolding delete_rows delete_rows_l
  same_rows tenant = more_same _ _ _ _ (asked-numbered t m tenant id _) (ledger-numbered L tenant id _) (same_asked A tenant id false) (λ z.
      first-same 8 _ _ _ _ (ap not (same-is_met (asked-accepted t m tenant id false z).small)) (λ _. refl))

  pub accepted-id : (tenant : ℕ) → first_of (delete_rows t m tenant id) ≡ 0 → id < content_range
  accepted-id tenant z = (asked-accepted t m tenant id false (delete-ready t m tenant id z)).small

  -- an accepted delete has something to invalidate
  pub met-here : (tenant : ℕ) → first_of (delete_rows t m tenant id) ≡ 0 → is_met (search_for t m id).met ≡ true
  unfolding delete_rows
  met-here tenant z = not-false _ (passed 7 (not (is_met (search_for t m id).met)) [] (passed-both _ _ (asked-numbered t m tenant id false) z).1).0

  -- the burns of an accepted delete
  pub delete-burns : delete_burns t m id ≡ burns_of t.capacity t.count (reads_l L) L.events m id
  delete-burns = ap (invalidations deleted) (delete-all t m id ∙ same-marks A id (reads t id) (reads_l L id) (same_reads A id))

  agrees : id < content_range → Agree t (burn_all m (delete_burns t m id)) (with_event L (removed id))
  unfolding with_event used_by
  agrees n = record {
    is_sound = A.is_sound;
    arrays = A.arrays;
    capacity = A.capacity;
    salt = A.salt;
    count = A.count;
    weights = A.weights;
    used = A.used;
    read_ps = A.read_ps;
    words = length-burn_all m (delete_burns t m id) ∙ A.words;
    holds = rw delete-burns (delete-holds A.holds id n);
  }

  pub delete-step : (tenant : ℕ) → Step (delete_reply t m tenant id) t (delete_medium t m tenant id) (enter L (delete tenant id))
  unfolding delete_reply delete_medium enter rows_of done_of compared
  delete-step tenant = settled L (delete_rows t m tenant id) (delete_rows_l L tenant id) (same_rows tenant) _ _ t (delete_medium t m tenant id)
      (λ z. rw (settle-yes (delete_rows t m tenant id) (burn_all m (delete_burns t m id)) m z)
      (record { alike = refl; agrees = agrees (accepted-id tenant z) }))
      (λ f. rw (settle-no (delete_rows t m tenant id) (burn_all m (delete_burns t m id)) m f) A)
