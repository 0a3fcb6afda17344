-- Write-once: no call alters a word that is not blank, whatever the table and the medium hold.
-- Assumes nothing.
use Prim.Native.Nat.{ℕ, ◌+◌, ◌<◌}
use mathlib.Core.Path.{◌≡◌, refl, ap, ◌∙◌}
use mathlib.Core.Logic.{◌≢◌, ⊎_elim}
use mathlib.Core.Bool.{◌&&◌}
use mathlib.Core.List.Memᴰ
use mathlib.Core.List.{List, Memᴰ}
use native.Mathlib.Omega.{arith}
use native.Mathlib.Nat.{add-zero}
use lib.Dec.{leb}
use Rattle.lists.specs.Below.{nth}
use Rattle.medium.specs.Word.{blank, replaced, deleted}
use Rattle.medium.specs.Entry.{entry_at}
use Rattle.medium.specs.Burn.{Burn, burn_all, invalidations}
use Rattle.medium.proofs.Entries.{blank-at}
use Rattle.medium.proofs.Burns.{burn-off, address-in}
use Rattle.medium.proofs.Marks.{marks-blank}
use Rattle.table.specs.declared.Table.{Table}
use Rattle.table.specs.Parts.{used_of, reads}
use Rattle.replies.specs.Refusal.{first_of}
use Rattle.replies.proofs.Refusals.{settle-either}
use Rattle.invalidation.specs.Marks.{marks_from}
use Rattle.deletion.specs.Deletion.{delete_rows, delete_marks, delete_burns, delete_medium}
use Rattle.planning.proofs.Passed.{write-accepted}
use Rattle.planning.specs.WriteRows.{target, write_rows}
use Rattle.writing.specs.Writing.{write_marks, write_burns, write_medium}

-- each of these burns falls on a blank word
abbrev pub AtBlank : List ℕ → List Burn → Type 0
AtBlank m bs = (b : Burn) → Memᴰ b bs → nth m b.address ≡ blank

-- so they alter no word that is not
burned-once : (m : List ℕ) (bs : List Burn) → AtBlank m bs → (a : ℕ) → nth m a ≢ blank → nth (burn_all m bs) a ≡ nth m a
burned-once m bs h a f = burn-off m bs a (λ b d e. f (ap (nth m) e ∙ h b d))

-- the marks of live entries are blank
marks-at-blank : (t : Table) (m : List ℕ) (id content from : ℕ) → AtBlank m (invalidations content (marks_from t m id from))
marks-at-blank t m id content from b d =
    marks-blank t.capacity (used_of t) m id (λ k. leb from k && reads t id k) t.count b.address (address-in content (marks_from t m id from) b d)

-- and so are the words of an accepted write's entry
pub write-at-blank : (t : Table) (m : List ℕ) (tenant id value : ℕ) → first_of (write_rows t m tenant id value) ≡ 0 → AtBlank m (write_burns t m id value)
unfolding write_burns write_marks
write-at-blank t m tenant id value z b d =
    ⊎_elim (λ e. rw e (here 1 (omega arith)))
    (λ r. ⊎_elim (λ e. rw e (rw add-zero at (here 0 (omega arith)))) (marks-at-blank t m id replaced (target t id) b) (Memᴰ.cases_cons r))
    (Memᴰ.cases_cons d)
  where
    here : (i : ℕ) → i < 3 → nth m (entry_at t.capacity (target t id) (used_of t (target t id)) + i) ≡ blank
    here i l = blank-at m (entry_at t.capacity (target t id) (used_of t (target t id))) 3 (write-accepted t m tenant id value z).is_blank i l

pub delete-at-blank : (t : Table) (m : List ℕ) (id : ℕ) → AtBlank m (delete_burns t m id)
unfolding delete_marks
delete-at-blank t m id = marks-at-blank t m id deleted 0

pub write-once : (t : Table) (m : List ℕ) (tenant id value a : ℕ) → nth m a ≢ blank → nth (write_medium t m tenant id value) a ≡ nth m a
unfolding write_medium
write-once t m tenant id value a f = settle-either (write_rows t m tenant id value) _ m (λ (w : List ℕ). nth w a ≡ nth m a)
    (λ z. burned-once m (write_burns t m id value) (write-at-blank t m tenant id value z) a f) refl

pub delete-once : (t : Table) (m : List ℕ) (tenant id a : ℕ) → nth m a ≢ blank → nth (delete_medium t m tenant id) a ≡ nth m a
unfolding delete_medium
delete-once t m tenant id a f = settle-either (delete_rows t m tenant id) _ m (λ (w : List ℕ). nth w a ≡ nth m a)
    (λ z. burned-once m (delete_burns t m id) (delete-at-blank t m id) a f) refl
