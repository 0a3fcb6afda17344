-- From what the tests of a call say to its reply, table and medium, on plain values.
-- Assumes nothing.
use Prim.Native.Nat.{ℕ}
use mathlib.Core.Path.{◌≡◌, refl, sym, ap, ◌∙◌}
use mathlib.Core.List.{List}
use native.Mathlib.Omega.{arith}
use lib.Dec.{eqb}
use borrow.Author.Tests.{eqb-true}
use Rattle.lists.proofs.Tests.{by_bool}
use Rattle.replies.specs.declared.Refusal.{Refusal}
use Rattle.replies.specs.declared.Refusal.TheVariants.{UnsoundTable, OutOfRange, NoSuchServer, TooManyServers, ShortMedium, ServerFull, NotBlank, NotFound, ExceedsFree, Corrupt, OtherTenant, BadImage, ShortDestination}
use Rattle.replies.specs.Refusal.{Row, first_of, settle}
use Rattle.replies.specs.declared.Reply.{Reply}
use Rattle.std.specs.Prelude.{Result, Ok, Err}
use Rattle.replies.specs.Reply.{refused, reply_by, number_of, check_number, reply_of_check}
use Rattle.replies.proofs.Refusals.{settle-yes, settle-no, settle-either}

-- no refusal has number 0
pub number-not-zero : (r : Refusal) → number_of r ≡ 0 → ⊥
unfolding number_of
number-not-zero UnsoundTable e = omega arith
number-not-zero OutOfRange e = omega arith
number-not-zero NoSuchServer e = omega arith
number-not-zero TooManyServers e = omega arith
number-not-zero ShortMedium e = omega arith
number-not-zero ServerFull e = omega arith
number-not-zero NotBlank e = omega arith
number-not-zero NotFound e = omega arith
number-not-zero ExceedsFree e = omega arith
number-not-zero Corrupt e = omega arith
number-not-zero OtherTenant e = omega arith
number-not-zero BadImage e = omega arith
number-not-zero ShortDestination e = omega arith

-- what a check that is matched on says of the rows it stands for
module _ {A : Type 0} (rows : List Row) {a : Result A Refusal} (e : check_number a ≡ first_of rows) where
  pub check-refused : {r : Refusal} → a ≡ Err r → number_of r ≡ first_of rows
  unfolding check_number
  check-refused f = sym (ap check_number f) ∙ e

  pub check-accepted : {u : A} → a ≡ Ok u → first_of rows ≡ 0
  unfolding check_number
  check-accepted f = sym e ∙ ap check_number f

-- the tests refused
module _ (rows : List Row) (r : Refusal) (e : number_of r ≡ first_of rows) where
  pub kept : {A : Type 0} (done lent : A) → lent ≡ settle rows done lent
  kept done lent = sym (settle-no rows done lent (λ z. number-not-zero r (e ∙ z)))

  pub reply-refused : (done : Reply) → refused (number_of r) 0 ≡ reply_by rows done
  unfolding reply_by
  reply-refused done = ap (λ (n : ℕ). refused n 0) e ∙ kept done (refused (first_of rows) 0)

-- the tests accepted
module _ (rows : List Row) (e : first_of rows ≡ 0) where
  pub reply-done : (done : Reply) → reply_by rows done ≡ done
  unfolding reply_by
  reply-done done = settle-yes rows done (refused (first_of rows) 0) e

-- the number is that of the reply
pub number_of_reply : {A : Type 0} (a : Result A Refusal) → check_number a ≡ (reply_of_check a).refusal
unfolding check_number reply_of_check
number_of_reply (Ok _) = refl
number_of_reply (Err r) = refl

-- the refusal number of a reply is that of its rows
pub reply-number : (rows : List Row) (done : Reply) → done.refusal ≡ 0 → (reply_by rows done).refusal ≡ first_of rows
unfolding reply_by settle
reply-number rows done z = by_bool (eqb (first_of rows) 0) (λ e. rw e (z ∙ sym (eqb-true (first_of rows) 0 e))) (λ e. rw e)

-- a reply that carries no opened count carries none where its rows refuse either
pub reply-unopened : (rows : List Row) (done : Reply) → done.opened ≡ 0 → (reply_by rows done).opened ≡ 0
unfolding reply_by
reply-unopened rows done z = settle-either rows done _ (λ (r : Reply). r.opened ≡ 0) (λ _. z) refl
