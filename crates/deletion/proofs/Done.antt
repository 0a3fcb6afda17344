-- When a delete has something to invalidate, and its last equations.
-- Assumes nothing.
use Prim.Native.Nat.{ℕ, suc}
use mathlib.Core.Path.{◌≡◌, refl, sym, ap, ◌∙◌}
use mathlib.Core.Logic.{◌≢◌}
use mathlib.Core.Bool.{Bool, false, cond, not}
use mathlib.Core.List.Memᴰ
use mathlib.Core.List.{List, [], ◌∷◌}
use Rattle.std.specs.Prelude.{Option, None, Some}
use native.Mathlib.Omega.{arith}
use lib.ListN.{length, take}
use lib.Seq.{take-nil}
use lib.Dec.{eqb}
use borrow.Author.Tests.{eq-eqb, ne_eqb, le-leb}
use Rattle.lists.proofs.Tests.{by_bool}
use Rattle.medium.specs.Word.{deleted}
use Rattle.medium.specs.Burn.{burn_all, marks_over, invalidations}
use Rattle.medium.proofs.Marks.{marks_over-cong, marks-in, marks-out}
use Rattle.table.specs.declared.Table.{Table}
use Rattle.table.specs.Parts.{used_of, reads}
use Rattle.replies.specs.declared.Refusal.{Refusal}
use Rattle.replies.specs.declared.Refusal.TheVariants.{NotFound}
use Rattle.replies.specs.Refusal.{first_of}
use Rattle.replies.specs.Reply.{refused, on_server, number_of}
use Rattle.replies.proofs.Refusals.{settle-yes, first-later, first-earlier, passed-both}
use Rattle.replies.proofs.Answers.{number-not-zero, kept, reply-refused, reply-done}
use Rattle.checks.specs.Ready.{asked_rows}
use Rattle.checks.proofs.Passed.{asked-numbered}
use Rattle.search.specs.declared.Place.{Place}
use Rattle.search.specs.Search.{search_for}
use Rattle.search.proofs.Searches.{met_some, met-none}
use Rattle.deletion.specs.Deletion.{is_met, delete_rows, delete_marks, delete_reply, delete_some_medium}

module _ (t : Table) (m : List ℕ) (id : ℕ) where
  -- every server is at or above 0
  pub delete-all : delete_marks t m id ≡ marks_over t.capacity (used_of t) m id (reads t id) t.count
  unfolding delete_marks
  delete-all = marks_over-cong t.capacity (used_of t) (used_of t) m m id _ _ t.count (λ k l. rw (le-leb 0 k (omega arith))) (λ k l. refl) (λ k j l i. record { id_same = refl; mark_same = refl })

  pub deleted-some : is_met (search_for t m id).met ≡ not (eqb (length (delete_marks t m id)) 0)
  unfolding is_met
  deleted-some = go (search_for t m id).met refl (delete_marks t m id) (sym delete-all)
    where
      go : (o : Option Place) → (search_for t m id).met ≡ o → (l : List ℕ) → marks_over t.capacity (used_of t) m id (reads t id) t.count ≡ l → is_met o ≡ not (eqb (length l) 0)
      go None e [] d = refl
      go None e (a ∷ l) d =
          let i = marks-out t.capacity (used_of t) m id (reads t id) t.count a (rw d (Memᴰ.head refl)) in
          absurd ((met-none t m id e).nowhere i.server i.below i.passes i.entry i.is_live)
      go (Some p) e [] d =
          let i = met_some t m id p e in
          absurd (Memᴰ.not-nil (rw d at (marks-in t.capacity (used_of t) m id (reads t id) t.count p.server p.entry i.below i.is_read i.is_live)))
      go (Some p) e (a ∷ l) d = rw (ne_eqb (suc (length l)) 0 (λ z. omega arith))

module _ (t : Table) (m : List ℕ) (tenant id : ℕ) (z : first_of (asked_rows t m tenant id false) ≡ 0) where
  delete-last : first_of (delete_rows t m tenant id) ≡ cond (is_met (search_for t m id).met) 0 8
  unfolding delete_rows first_of
  delete-last =
      first-later _ _ (asked-numbered t m tenant id false) z
      ∙ by_bool (is_met (search_for t m id).met) (λ f. rw f) (λ f. rw f)

  module _ (burns n : ℕ) (m' : List ℕ)
      (count : n ≡ length (delete_marks t m id))
      (words : m' ≡ burn_all m (take burns (invalidations deleted (delete_marks t m id)))) where
    delete-number : first_of (delete_rows t m tenant id) ≡ cond (not (eqb n 0)) 0 8
    delete-number = delete-last ∙ ap (λ (b : Bool). cond b 0 8) (deleted-some t m id ∙ ap (λ (x : ℕ). not (eqb x 0)) (sym count))

    nothing : (l : List ℕ) → length l ≡ 0 → burn_all m (take burns (invalidations deleted l)) ≡ m
    unfolding burn_all invalidations
    nothing [] e = rw take-nil
    nothing (a ∷ l) e = absurd (omega arith)

    pub deleted-none : n ≡ 0 → (refused 8 0 ≡ delete_reply t m tenant id) × (m' ≡ delete_some_medium t m tenant id burns)
    unfolding delete_reply delete_some_medium number_of
    deleted-none e =
        let q : number_of NotFound ≡ first_of (delete_rows t m tenant id) = sym (delete-number ∙ rw (eq-eqb n 0 e)) in
        (reply-refused (delete_rows t m tenant id) NotFound q _, words ∙ nothing _ (sym count ∙ e) ∙ kept (delete_rows t m tenant id) NotFound q _ m)

    pub deleted-done : n ≢ 0 → (on_server 0 n ≡ delete_reply t m tenant id) × (m' ≡ delete_some_medium t m tenant id burns)
    unfolding delete_reply delete_some_medium
    deleted-done f =
        let q : first_of (delete_rows t m tenant id) ≡ 0 = delete-number ∙ rw (ne_eqb n 0 f) in
        (ap (on_server 0) count ∙ sym (reply-done (delete_rows t m tenant id) q _), words ∙ sym (settle-yes (delete_rows t m tenant id) _ m q))

-- a delete that is accepted passes the shared tests
pub delete-ready : (t : Table) (m : List ℕ) (tenant id : ℕ) → first_of (delete_rows t m tenant id) ≡ 0 → first_of (asked_rows t m tenant id false) ≡ 0
unfolding delete_rows
delete-ready t m tenant id z = (passed-both _ _ (asked-numbered t m tenant id false) z).0

pub delete-refused : (t : Table) (m : List ℕ) (tenant id burns : ℕ) (r : Refusal) → number_of r ≡ first_of (asked_rows t m tenant id false) → (refused (number_of r) 0 ≡ delete_reply t m tenant id) × (m ≡ delete_some_medium t m tenant id burns)
unfolding delete_reply delete_some_medium delete_rows
delete-refused t m tenant id burns r e =
    let same : number_of r ≡ first_of (delete_rows t m tenant id) = e ∙ sym (first-earlier _ _ (asked-numbered t m tenant id false) (λ z. number-not-zero r (e ∙ z))) in
    (reply-refused (delete_rows t m tenant id) r same _, kept (delete_rows t m tenant id) r same _ m)
