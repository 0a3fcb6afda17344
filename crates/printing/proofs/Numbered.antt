-- What is printed of a reply, by the number of the call.
-- Assumes nothing.
use Prim.Native.Nat.{ℕ}
use mathlib.Core.Path.{◌≡◌, refl}
use mathlib.Core.Bool.{cond}
use mathlib.Core.List.{List}
use lib.Dec.{eqb}
use Rattle.lists.proofs.Tests.{by_bool}
use Rattle.calls.specs.Number.{add_server_number, reweight_number, write_number, delete_number, lookup_number}
use Rattle.calls.specs.Numbered.{call_of}
use Rattle.replies.specs.declared.Reply.{Reply}
use Rattle.letters.specs.Letter.{letter_of}
use Rattle.printing.specs.Print.{printed, question, answers_of, answered}

pub answered-number : (number tenant subject amount : ℕ) (r : Reply)
    → (let o = call_of number tenant subject amount in
    let line : ℕ → ℕ → List ℕ = printed (letter_of o) r.refusal in
    answered o r ≡ cond (eqb number add_server_number) (line r.server 0)
    (cond (eqb number reweight_number) (line r.server 0)
    (cond (eqb number write_number) (line r.server r.invalidated)
    (cond (eqb number delete_number) (line r.invalidated 0)
    (cond (eqb number lookup_number) (line r.value r.opened)
    question)))))
unfolding call_of answered answers_of
answered-number number tenant subject amount r =
    by_bool (eqb number add_server_number) (λ d. rw d refl) (λ d. rw d
    (by_bool (eqb number reweight_number) (λ d. rw d refl) (λ d. rw d
    (by_bool (eqb number write_number) (λ d. rw d refl) (λ d. rw d
    (by_bool (eqb number delete_number) (λ d. rw d refl) (λ d. rw d
    (by_bool (eqb number lookup_number) (λ d. rw d refl) (λ d. rw d refl)))))))))
