-- What an accepted write or delete burns is an id word, a value word or a mark: no word of tag 3.
-- Assumes nothing.
use Prim.Native.Nat.{ℕ, ◌<◌}
use mathlib.Core.Path.{◌≡◌}
use mathlib.Core.Logic.{⊎_elim}
use mathlib.Core.List.Memᴰ
use mathlib.Core.List.{List, [], ◌∷◌, Memᴰ}
use native.Mathlib.Omega.{arith}
use Rattle.words.specs.Word.{tag_of}
use Rattle.medium.specs.Word.{replaced, deleted}
use Rattle.medium.specs.Burn.{Burn, invalidations}
use Rattle.table.specs.declared.Table.{Table}
use Rattle.replies.specs.Refusal.{first_of}
use Rattle.deletion.specs.Deletion.{delete_marks}
use Rattle.planning.specs.WriteRows.{write_rows}
use Rattle.planning.proofs.Passed.{write-accepted}
use Rattle.writing.specs.Writing.{write_marks, write_burns}

-- a mark of either content
marks-tagged : (content : ℕ) → content < 3 → (addresses : List ℕ) (b : Burn) → Memᴰ b (invalidations content addresses) → tag_of b.word ≡ 2
unfolding invalidations
marks-tagged content l [] b d = absurd (Memᴰ.not-nil d)
marks-tagged content l (a ∷ rest) b d = ⊎_elim (λ e. rw e (omega arith)) (marks-tagged content l rest b) (Memᴰ.cases_cons d)

pub write-tagged : (t : Table) (m : List ℕ) (tenant id value : ℕ) → first_of (write_rows t m tenant id value) ≡ 0 → (b : Burn) → Memᴰ b (write_burns t m id value) → tag_of b.word < 3
unfolding write_burns
write-tagged t m tenant id value z b d =
    let a = write-accepted t m tenant id value z in
    ⊎_elim
    (λ e. rw e (omega (arith, a.small)))
    (λ r. ⊎_elim (λ e. rw e (omega (arith, a.asked.small))) (λ q. omega (arith, marks-tagged replaced (omega arith) (write_marks t m id) b q)) (Memᴰ.cases_cons r))
    (Memᴰ.cases_cons d)

pub delete-tagged : (t : Table) (m : List ℕ) (id : ℕ) (b : Burn) → Memᴰ b (invalidations deleted (delete_marks t m id)) → tag_of b.word < 3
delete-tagged t m id b d = omega (arith, marks-tagged deleted (omega arith) (delete_marks t m id) b d)
