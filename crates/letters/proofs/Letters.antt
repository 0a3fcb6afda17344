-- Reading and printing go by the same letters: the call that a letter stands for has that letter.
-- Assumes nothing.
use Prim.Native.Nat.{ℕ, zero, suc}
use mathlib.Core.Path.{◌≡◌, refl, ap}
use mathlib.Core.Logic.{◌≢◌}
use mathlib.Core.List.{List, [], ◌∷◌}
use lib.Dec.{eqb}
use borrow.Author.Tests.{eqb-true, eqb-false, ne_eqb}
use Rattle.std.specs.Prelude.{Option, None, Some}
use Rattle.std.specs.Option.{option_map}
use Rattle.lists.specs.Below.{nth, or_zero}
use Rattle.lists.proofs.Tests.{by_bool}
use Rattle.calls.specs.declared.Call.{Call}
use Rattle.calls.specs.Number.{add_server_number, reweight_number, write_number, delete_number, lookup_number}
use Rattle.calls.specs.Numbered.{call_of}
use Rattle.letters.specs.Letter.{add_server_letter, reweight_letter, write_letter, delete_letter, lookup_letter, letter_of, call_for}

-- where there is a call it has the letter
abbrev Has : ℕ → Option Call → Type 0
Has letter o = option_map (λ c. letter_of (Some c)) o ≡ option_map (λ _. letter) o

has : (letter first second : ℕ) → Has letter (call_for letter first second)
unfolding call_for letter_of
has letter first second =
    by_bool (eqb letter add_server_letter) (λ d. rw (d, eqb-true _ _ d) refl) (λ d. rw d
    (by_bool (eqb letter reweight_letter) (λ d. rw (d, eqb-true _ _ d) refl) (λ d. rw d
    (by_bool (eqb letter write_letter) (λ d. rw (d, eqb-true _ _ d) refl) (λ d. rw d
    (by_bool (eqb letter delete_letter) (λ d. rw (d, eqb-true _ _ d) refl) (λ d. rw d
    (by_bool (eqb letter lookup_letter) (λ d. rw (d, eqb-true _ _ d) refl) (λ d. rw d refl)))))))))

pub same-letter : (letter first second : ℕ) (c : Call) → call_for letter first second ≡ Some c → letter_of (Some c) ≡ letter
unfolding or_zero
same-letter letter first second c e = ap or_zero (rw e at (has letter first second))

-- a letter that is none of the five is no call's
pub no-letter : (letter first second : ℕ) → letter ≢ add_server_letter → letter ≢ reweight_letter → letter ≢ write_letter → letter ≢ delete_letter → letter ≢ lookup_letter → call_for letter first second ≡ None
unfolding call_for
no-letter letter first second a b c d e = rw (ne_eqb letter add_server_letter a, ne_eqb letter reweight_letter b, ne_eqb letter write_letter c, ne_eqb letter delete_letter d, ne_eqb letter lookup_letter e)

-- the letters in the order of the calls' numbers, of which 0 is no call's
abbrev pub letters : List ℕ
letters = 0 ∷ 70 ∷ 71 ∷ 87 ∷ 68 ∷ 76 ∷ []

none-there : (n : ℕ) → n ≢ add_server_number → n ≢ reweight_number → n ≢ write_number → n ≢ delete_number → n ≢ lookup_number → 0 ≡ nth letters n
none-there zero a b c d e = refl
none-there (suc zero) a b c d e = absurd (a refl)
none-there (suc (suc zero)) a b c d e = absurd (b refl)
none-there (suc (suc (suc zero))) a b c d e = absurd (c refl)
none-there (suc (suc (suc (suc zero)))) a b c d e = absurd (d refl)
none-there (suc (suc (suc (suc (suc zero))))) a b c d e = absurd (e refl)
none-there (suc (suc (suc (suc (suc (suc n)))))) a b c d e = refl

pub letter-by-number : (number tenant subject amount : ℕ) → letter_of (call_of number tenant subject amount) ≡ nth letters number
unfolding call_of letter_of
letter-by-number number tenant subject amount =
    by_bool (eqb number add_server_number) (λ d. rw (d, eqb-true _ _ d) refl) (λ a. rw a
    (by_bool (eqb number reweight_number) (λ d. rw (d, eqb-true _ _ d) refl) (λ b. rw b
    (by_bool (eqb number write_number) (λ d. rw (d, eqb-true _ _ d) refl) (λ c. rw c
    (by_bool (eqb number delete_number) (λ d. rw (d, eqb-true _ _ d) refl) (λ d. rw d
    (by_bool (eqb number lookup_number) (λ d. rw (d, eqb-true _ _ d) refl) (λ e. rw e
    (none-there number (eqb-false _ _ a) (eqb-false _ _ b) (eqb-false _ _ c) (eqb-false _ _ d) (eqb-false _ _ e)))))))))))
