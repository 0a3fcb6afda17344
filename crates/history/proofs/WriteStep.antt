-- A write on both sides.
-- Assumes nothing.
use Prim.Native.Nat.{ℕ, suc, ◌<◌}
use mathlib.Core.Path.{◌≡◌, sym, ap, ap₂, ◌∙◌}
use mathlib.Core.Bool.{Bool, true, ◌&&◌}
use mathlib.Core.List.{List, ◌∷◌}
use native.Mathlib.Omega.{arith}
use lib.Dec.{leb, eqb}
use borrow.Author.Tests.{eqb-true, eqb-false}
use Rattle.lists.proofs.Tests.{by_bool}
use Rattle.draws.specs.Draw.{modulus, draw_of}
use Rattle.placement.specs.Rule.{write_p, takes, readable}
use Rattle.placement.proofs.Fractions.{exceeds-grows}
use Rattle.medium.specs.Word.{replaced}
use Rattle.medium.specs.Entry.{entry_at, blank_run}
use Rattle.medium.specs.Burn.{burn_all, invalidations}
use Rattle.medium.proofs.Entries.{blank-run}
use Rattle.medium.proofs.Burns.{length-burn_all}
use Rattle.table.specs.declared.Table.{Table}
use Rattle.table.specs.Parts.{weight_of, used_of, read_p, reads}
use Rattle.upkeep.specs.Upkeep.{with_entry}
use Rattle.upkeep.proofs.Upkeep.{EntryAdded, with_entry-is, with_entry-arrays}
use Rattle.table.proofs.Soundness.{sound-facts}
use Rattle.upkeep.proofs.KeptSound.{with_entry-sound}
use Rattle.replies.specs.Refusal.{first_of}
use Rattle.replies.proofs.Refusals.{more_same, settle-yes, settle-no}
use Rattle.checks.proofs.Passed.{asked-numbered, asked-tests}
use Rattle.planning.specs.WriteRows.{target, entry_rows, write_rows}
use Rattle.writing.specs.Writing.{write_marks, write_burns, write_reply, write_table, write_medium}
use Rattle.planning.proofs.Passed.{target_is, write-accepted}
use Rattle.history.specs.Call.{write, compared}
use Rattle.history.specs.Ledger.{wrote, Ledger, told, used_by, with_event, write_rows_l, rows_of, done_of, enter, reads_l}
use Rattle.history.proofs.Events.{wrote-takes, used-self, used-other}
use Rattle.history.proofs.WrittenMedium.{Accepted}
use Rattle.history.proofs.WriteBurns.{value_burn, id_burn, burns_to, write-holds}
use Rattle.history.proofs.Agree.{Agree, Step, settled, same_asked, ledger-numbered, same_target, same_reads, same-marks}

module _ {t : Table} {m : List ℕ} {L : Ledger} (A : Agree t m L) (tenant id value : ℕ) where
  abbrev server : ℕ
  server = target t id

  target-there : (t.count ≡ 0 → ⊥) → server < t.count
  target-there n = (target_is t id (omega (arith, n))).below

  -- room where the server is not full
  not_full : server < t.count → (used_of t server ≡ t.capacity → ⊥) → used_by L.events server < t.capacity
  not_full l n = omega (arith, n, A.used server l, A.holds.fits server)

  pub blank-entry : server < t.count → used_by L.events server < t.capacity → blank_run m (entry_at t.capacity server (used_of t server)) 3 ≡ true
  blank-entry l i =
      let u = A.used server l in
      blank-run m (entry_at t.capacity server (used_of t server)) 3 (λ q b. A.holds.free server (used_of t server) q l (omega arith) (omega arith) b)

  pub same_rows : first_of (write_rows t m tenant id value) ≡ first_of (write_rows_l L tenant id value)
  unfolding write_rows write_rows_l entry_rows first_of
  same_rows = more_same _ _ _ _ (asked-numbered t m tenant id _) (ledger-numbered L tenant id _) (same_asked A tenant id _) (λ z.
      let l = target-there (eqb-false t.count 0 (asked-tests t m tenant id _ z).none) in
      let e6 = ap₂ eqb (A.used server l ∙ ap (used_by L.events) (same_target A id)) A.capacity in
      by_bool (eqb (used_of t server) t.capacity)
      (λ e. rw (e, sym e6 ∙ e))
      (λ e. rw (e, sym e6 ∙ e, blank-entry l (not_full l (eqb-false (used_of t server) t.capacity e)))))

  -- the write server is readable: its ReadP is at least its WriteP
  target-read : server < t.count → reads_l L id server ≡ true
  unfolding readable takes
  target-read l =
      let s = (sound-facts t A.is_sound).server server l in
      sym (same_reads A id server l)
      ∙ exceeds-grows modulus (write_p (weight_of t) server) (read_p t server) (draw_of t.salt id server) s.positive s.reads
      (target_is t id (omega arith)).takes_it

  pub accepted : first_of (write_rows t m tenant id value) ≡ 0 → Accepted t.capacity t.count (reads_l L) L.events id value server
  accepted z =
      let a = write-accepted t m tenant id value z in
      record {
        small = a.asked.small;
        small_value = a.small;
        there = a.there;
        room = omega (arith, a.free, A.used server a.there);
        reads = target-read a.there;
      }

  -- the burns of an accepted write
  pub write-burns : server < t.count → write_burns t m id value ≡ burns_to t.capacity t.count (reads_l L) L.events m id value server
  unfolding write_burns write_marks
  write-burns l = ap₂
      (λ (j : ℕ) (marks : List ℕ). value_burn t.capacity value server j ∷ id_burn t.capacity id server j ∷ invalidations replaced marks)
      (A.used server l)
      (same-marks A id (λ k. leb server k && reads t id k) (λ k. leb server k && reads_l L id k) (λ k i. ap (λ (b : Bool). leb server k && b) (same_reads A id k i)))

  module _ (W : Accepted t.capacity t.count (reads_l L) L.events id value server) where
    added : EntryAdded t server (with_entry t server)
    added = with_entry-is t server A.arrays (sound-facts t A.is_sound).few W.there

    new-used : (k : ℕ) → k < t.count → used_of (with_entry t server) k ≡ used_by (wrote id value server ∷ L.events) k
    new-used k l = by_bool (eqb k server)
        (λ d. rw (eqb-true k server d) (added.used_new ∙ ap suc (A.used server W.there) ∙ sym (used-self (wrote-takes id value server) L.events)))
        (λ d. added.used_old k (eqb-false k server d) ∙ A.used k l ∙ sym (used-other (wrote-takes id value server) L.events k (eqb-false k server d)))

    agrees : Agree (with_entry t server) (burn_all m (write_burns t m id value)) (with_event L (wrote id value server))
    unfolding with_entry with_event
    agrees = record {
      is_sound = with_entry-sound t server A.arrays A.is_sound W.there (omega (arith, W.room, A.used server W.there));
      arrays = with_entry-arrays t server A.arrays;
      capacity = A.capacity;
      salt = A.salt;
      count = A.count;
      weights = A.weights;
      used = new-used;
      read_ps = A.read_ps;
      words = length-burn_all m (write_burns t m id value) ∙ A.words;
      holds = rw (write-burns W.there) (write-holds A.holds W);
    }

  pub write_step : Step (write_reply t m tenant id value) (write_table t m tenant id value) (write_medium t m tenant id value) (enter L (write tenant id value))
  unfolding write_reply write_table write_medium enter rows_of done_of compared
  write_step = settled L (write_rows t m tenant id value) (write_rows_l L tenant id value) same_rows _ _ (write_table t m tenant id value) (write_medium t m tenant id value)
      (λ z. rw (settle-yes (write_rows t m tenant id value) (with_entry t server) t z, settle-yes (write_rows t m tenant id value) (burn_all m (write_burns t m id value)) m z)
      (record {
        alike = ap (λ (k : ℕ). told 0 k 0 0) (same_target A id);
        agrees = rw (← (same_target A id)) (agrees (accepted z));
      }))
      (λ f. rw (settle-no (write_rows t m tenant id value) (with_entry t server) t f, settle-no (write_rows t m tenant id value) (burn_all m (write_burns t m id value)) m f) A)
