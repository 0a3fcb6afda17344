-- Two different answers never have the same reply: a contract that gives the reply gives the answer.
-- Assumes nothing.
use Prim.Native.Nat.{ℕ}
use mathlib.Core.Path.{◌≡◌, refl, sym, ap, ap₂, ◌∙◌}
use mathlib.Core.Bool.{cond}
use lib.Dec.{eqb}
use Rattle.replies.specs.declared.Refusal.{Refusal}
use Rattle.replies.specs.declared.Refusal.TheVariants.{UnsoundTable, OutOfRange, NoSuchServer, TooManyServers, ShortMedium, ServerFull, NotBlank, NotFound, ExceedsFree, Corrupt, OtherTenant, BadImage, ShortDestination}
use Rattle.std.specs.Prelude.{Result, Ok, Err}
use Rattle.replies.specs.declared.Reply.{Reply}
use Rattle.replies.specs.declared.Written.{Written}
use Rattle.replies.specs.declared.LookupAnswer.{LookupAnswer}
use Rattle.replies.specs.Reply.{number_of, reply_of_check, reply_of_server, reply_of_write, reply_of_delete, found_or, reply_of_lookup}
use Rattle.replies.proofs.Answers.{number-not-zero}

-- the refusal of a number, the last for every other
refusal_of : ℕ → Refusal
refusal_of n =
    cond (eqb n 1) UnsoundTable
    (cond (eqb n 2) OutOfRange
    (cond (eqb n 3) NoSuchServer
    (cond (eqb n 4) TooManyServers
    (cond (eqb n 5) ShortMedium
    (cond (eqb n 6) ServerFull
    (cond (eqb n 7) NotBlank
    (cond (eqb n 8) NotFound
    (cond (eqb n 9) ExceedsFree
    (cond (eqb n 10) Corrupt
    (cond (eqb n 11) OtherTenant
    (cond (eqb n 12) BadImage
    ShortDestination)))))))))))

back : (r : Refusal) → refusal_of (number_of r) ≡ r
unfolding refusal_of number_of
back UnsoundTable = refl
back OutOfRange = refl
back NoSuchServer = refl
back TooManyServers = refl
back ShortMedium = refl
back ServerFull = refl
back NotBlank = refl
back NotFound = refl
back ExceedsFree = refl
back Corrupt = refl
back OtherTenant = refl
back BadImage = refl
back ShortDestination = refl

pub numbers_apart : (r s : Refusal) → number_of r ≡ number_of s → r ≡ s
numbers_apart r s e = sym (back r) ∙ ap refusal_of e ∙ back s

-- the numbers of a reply, as its equation gives them
refusals : {x y : Reply} → x ≡ y → x.refusal ≡ y.refusal
refusals e = ap (λ (r : Reply). r.refusal) e

pub checks-apart : (a b : Result (Unit {0}) Refusal) → reply_of_check a ≡ reply_of_check b → a ≡ b
unfolding reply_of_check
checks-apart (Ok _) (Ok _) e = refl
checks-apart (Ok _) (Err r) e = absurd (number-not-zero r (sym (refusals e)))
checks-apart (Err r) (Ok _) e = absurd (number-not-zero r (refusals e))
checks-apart (Err r) (Err s) e = ap Err (numbers_apart r s (refusals e))

pub servers-apart : (a b : Result ℕ Refusal) → reply_of_server a ≡ reply_of_server b → a ≡ b
unfolding reply_of_server
servers-apart (Ok k) (Ok l) e = ap Ok (ap (λ (r : Reply). r.server) e)
servers-apart (Ok k) (Err r) e = absurd (number-not-zero r (sym (refusals e)))
servers-apart (Err r) (Ok k) e = absurd (number-not-zero r (refusals e))
servers-apart (Err r) (Err s) e = ap Err (numbers_apart r s (refusals e))

abbrev written : ℕ → ℕ → Result Written Refusal
written k n = Ok (record { server = k; invalidated = n })

pub writes_apart : (a b : Result Written Refusal) → reply_of_write a ≡ reply_of_write b → a ≡ b
unfolding reply_of_write
writes_apart (Ok v) (Ok w) e =
    ap₂ written (ap (λ (r : Reply). r.server) e) (ap (λ (r : Reply). r.invalidated) e)
writes_apart (Ok v) (Err r) e = absurd (number-not-zero r (sym (refusals e)))
writes_apart (Err r) (Ok v) e = absurd (number-not-zero r (refusals e))
writes_apart (Err r) (Err s) e = ap Err (numbers_apart r s (refusals e))

pub deletes-apart : (a b : Result ℕ Refusal) → reply_of_delete a ≡ reply_of_delete b → a ≡ b
unfolding reply_of_delete
deletes-apart (Ok n) (Ok o) e = ap Ok (ap (λ (r : Reply). r.invalidated) e)
deletes-apart (Ok n) (Err r) e = absurd (number-not-zero r (sym (refusals e)))
deletes-apart (Err r) (Ok n) e = absurd (number-not-zero r (refusals e))
deletes-apart (Err r) (Err s) e = ap Err (numbers_apart r s (refusals e))

values_apart : (a b : Result ℕ Refusal) (n o : ℕ) → found_or a n ≡ found_or b o → a ≡ b
unfolding found_or
values_apart (Ok v) (Ok w) n o e = ap Ok (ap (λ (r : Reply). r.value) e)
values_apart (Ok v) (Err r) n o e = absurd (number-not-zero r (sym (refusals e)))
values_apart (Err r) (Ok v) n o e = absurd (number-not-zero r (refusals e))
values_apart (Err r) (Err s) n o e = ap Err (numbers_apart r s (refusals e))

opened-of : (a : Result ℕ Refusal) (n : ℕ) → (found_or a n).opened ≡ n
unfolding found_or
opened-of (Ok v) n = refl
opened-of (Err r) n = refl

pub lookup_opened : (a : LookupAnswer) → (reply_of_lookup a).opened ≡ a.opened
unfolding reply_of_lookup
lookup_opened a = opened-of a.value a.opened

pub lookups-apart : (a b : LookupAnswer) → reply_of_lookup a ≡ reply_of_lookup b → a ≡ b
unfolding reply_of_lookup
lookups-apart a b e =
    ap₂ (λ (v : Result ℕ Refusal) (n : ℕ). record { value = v; opened = n }) (values_apart a.value b.value a.opened b.opened e)
    (sym (opened-of a.value a.opened) ∙ ap (λ (r : Reply). r.opened) e ∙ opened-of b.value b.opened)
