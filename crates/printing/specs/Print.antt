-- What a line prints: a letter, the refusal number or 0, and two answers; or a lone question mark.
use Rattle.std.specs.Prelude.{ℕ, zero, suc, ◌+◌, ◌/◌, ◌%◌, cond, List, [], ◌∷◌, ◌++◌, ltb, Option, None, Some}
use Rattle.calls.specs.declared.Call.{Call}
use Rattle.calls.specs.declared.Call.TheVariants.{AddServer, Reweight, Write, Delete, Lookup}
use Rattle.replies.specs.declared.Reply.{Reply}
use Rattle.letters.specs.Letter.{letter_of}

-- decimal digits without leading zeros, of a number of at most n digits
unfoldable pub digits : ℕ → ℕ → List ℕ
digits zero x = []
digits (suc n) x = cond (ltb x 10) ((48 + x) ∷ []) (digits n (x / 10) ++ ((48 + x % 10) ∷ []))

-- the digits of a 32-bit number
unfoldable pub decimal : ℕ → List ℕ
decimal x = digits 10 x

unfoldable pub printed : ℕ → ℕ → ℕ → ℕ → List ℕ
printed letter refusal a b = letter ∷ 32 ∷ (decimal refusal ++ (32 ∷ (decimal a ++ (32 ∷ (decimal b ++ (10 ∷ []))))))

-- bytes of the longest of these lines: a letter, three numbers of ten digits, a blank before each, and LF
abbrev pub longest_line : ℕ
longest_line = 35

unfoldable pub question : List ℕ
question = 63 ∷ 10 ∷ []

-- the two answers of a call's reply: F server 0; G server 0; W server invalidated; D invalidated 0; L value opened
unfoldable pub answers_of : Call → Reply → ℕ × ℕ
answers_of (AddServer _) r = (r.server, 0)
answers_of (Reweight _ _) r = (r.server, 0)
answers_of (Write _ _ _) r = (r.server, r.invalidated)
answers_of (Delete _ _) r = (r.invalidated, 0)
answers_of (Lookup _ _) r = (r.value, r.opened)

-- what a call prints: its letter, and of its reply the refusal number and the two answers; what is no call prints a question mark
unfoldable pub answered : Option Call → Reply → List ℕ
answered None r = question
answered (Some c) r = printed (letter_of (Some c)) r.refusal ((answers_of c r).0) ((answers_of c r).1)
