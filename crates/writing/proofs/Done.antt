-- The last equations of write.
-- Assumes nothing.
use Prim.Native.Nat.{ℕ, ◌+◌, ◌-◌, ◌≤◌, ◌<◌}
use Rattle.limits.specs.Limits.{max_capacity, content_range}
use Rattle.medium.proofs.Places.{entry_in}
use mathlib.Core.Path.{◌≡◌, refl, sym, ap, ap₂, ◌∙◌}
use mathlib.Core.Bool.{Bool, cond}
use mathlib.Core.List.{List}
use native.Mathlib.Omega.{arith}
use lib.ListN.{length, take}
use lib.Dec.{leb}
use Rattle.medium.specs.Word.{replaced}
use Rattle.medium.specs.Entry.{entry_at, AllInside}
use Rattle.medium.specs.Burn.{Burn, burn_all, invalidations}
use Rattle.medium.proofs.Burns.{length-burn_all}
use Rattle.table.specs.declared.Table.{Table}
use Rattle.table.specs.Parts.{used_of}
use Rattle.upkeep.specs.Upkeep.{with_entry}
use Rattle.replies.specs.declared.Refusal.{Refusal}
use Rattle.std.specs.Prelude.{Result, Ok, Err}
use Rattle.replies.specs.declared.Written.{Written}
use Rattle.replies.specs.Refusal.{first_of}
use Rattle.replies.specs.Reply.{refused, on_server, number_of, reply_of_write}
use Rattle.replies.proofs.Refusals.{settle-yes}
use Rattle.replies.proofs.Answers.{number-not-zero, kept, reply-refused, reply-done}
use Rattle.invalidation.specs.Marks.{marks_from}
use Rattle.planning.specs.WriteRows.{target, write_rows}
use Rattle.writing.specs.Writing.{write_marks, write_reply, write_some_table, write_some_medium}
use Rattle.planning.proofs.Passed.{write-accepted}
use Rattle.writing.proofs.Accepted.{WrittenTo, written-to, written-some, some-kept}
use Rattle.writing.proofs.NewEntry.{new_burns, entered, entered-burns, entered-marks}

-- a write that its tests refuse
pub write-refused : (t : Table) (m : List ℕ) (tenant id value burns : ℕ) (r : Refusal) → number_of r ≡ first_of (write_rows t m tenant id value) → (refused (number_of r) 0 ≡ write_reply t m tenant id value) × (m ≡ write_some_medium t m tenant id value burns)
unfolding write_reply write_some_medium
write-refused t m tenant id value burns r e = (reply-refused (write_rows t m tenant id value) r e _, kept (write_rows t m tenant id value) r e _ m)

-- a write that goes to server k: its entry there, whose words are inside the medium
pub record Placed (t : Table) (m : List ℕ) (k value : ℕ) : Type 0 where
  pub few : k < 256
  pub high : t.capacity ≤ max_capacity
  pub free : used_of t k < t.capacity
  pub words : entry_at t.capacity k (used_of t k) + 2 < length m
  pub small : value < content_range
  pub inside : AllInside t.capacity t.count (used_of t) m

pub placed : (t : Table) (m : List ℕ) (tenant id value k : ℕ) → first_of (write_rows t m tenant id value) ≡ 0 → k ≡ target t id → Placed t m k value
placed t m tenant id value k z is =
    let w = write-accepted t m tenant id value z in
    let there : k < t.count = omega (arith, w.there) in
    let free : used_of t k < t.capacity = omega (arith, w.free, ap (used_of t) is) in
    record {
      few = omega (arith, w.inside.few);
      high = w.inside.small;
      free = free;
      words = omega (arith, entry_in t.capacity t.count k (used_of t k) 2 there free (omega arith), w.inside.long);
      small = w.small;
      inside = w.inside;
    }

-- servers lie inside a medium by its length alone
pub inside-burned : (capacity count : ℕ) (used : ℕ → ℕ) (m : List ℕ) (bs : List Burn) → AllInside capacity count used m → AllInside capacity count used (burn_all m bs)
inside-burned capacity count used m bs i = record { small = i.small; few = i.few; fits = i.fits; long = rw length-burn_all i.long }

-- a write: as many of the entry's two words as the burns allow, then of the invalidations
module _ (t : Table) (m : List ℕ) (tenant id value burns : ℕ) (z : first_of (write_rows t m tenant id value) ≡ 0) (k at n left : ℕ) (m' : List ℕ) (there : k ≡ target t id) (begins : at ≡ entry_at t.capacity k (used_of t k)) where
  abbrev m₂ : List ℕ
  m₂ = burn_all m (take burns (new_burns at id value))

  entered_here : m₂ ≡ entered t m id value burns
  entered_here = rw (begins, there)

  marks-here : marks_from t m₂ id k ≡ write_marks t m id
  unfolding write_marks
  marks-here =
      let w = write-accepted t m tenant id value z in
      rw (entered_here, there) (entered-marks t m id value burns w.is_sound w.free _ t.count (omega arith))

  pub written : left ≡ burns - 2
      → n ≡ length (marks_from t m₂ id k)
      → m' ≡ burn_all m₂ (take left (invalidations replaced (marks_from t m₂ id k)))
      → (on_server k n ≡ write_reply t m tenant id value) × (m' ≡ write_some_medium t m tenant id value burns)
  unfolding write_reply write_some_medium
  written rest count words = (
    ap₂ on_server there (count ∙ ap length marks-here) ∙ sym (reply-done (write_rows t m tenant id value) z _),
    words
        ∙ ap (λ (x : ℕ). burn_all m₂ (take x (invalidations replaced (marks_from t m₂ id k)))) rest
        ∙ ap₂ (λ (w l : List ℕ). burn_all w (take (burns - 2) (invalidations replaced l))) entered_here marks-here
        ∙ sym (entered-burns t m id value burns)
        ∙ sym (settle-yes (write_rows t m tenant id value) _ m z),
  )

-- the table after a write, by its answer
module _ (t : Table) (m : List ℕ) (tenant id value : ℕ) {a : Result Written Refusal} (e : reply_of_write a ≡ write_reply t m tenant id value) where
  pub answered-written : {w : Written} → a ≡ Ok w → WrittenTo t m tenant id value w.server
  unfolding reply_of_write
  answered-written {w} g = written-to t m tenant id value (on_server w.server w.invalidated) (sym (ap reply_of_write g) ∙ e) refl

  pub answered-some : {w : Written} → a ≡ Ok w → (burns : ℕ) (b : Bool) → b ≡ leb (w.invalidated + 2) burns → cond b (with_entry t w.server) t ≡ write_some_table t m tenant id value burns
  unfolding reply_of_write
  answered-some {w} g = written-some t m tenant id value (on_server w.server w.invalidated) (sym (ap reply_of_write g) ∙ e) refl

  pub answered-refused : {r : Refusal} → a ≡ Err r → (burns : ℕ) → t ≡ write_some_table t m tenant id value burns
  unfolding reply_of_write
  answered-refused {r} g = some-kept t m tenant id value (refused (number_of r) 0) (sym (ap reply_of_write g) ∙ e) (number-not-zero r)
