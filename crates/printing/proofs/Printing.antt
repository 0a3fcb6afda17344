-- Laws of printing: a number digit by digit, how long it gets, and runs of bytes put one after another.
-- Assumes nothing.
use Prim.Native.Nat.{◌^◌, ℕ, zero, suc, ◌+◌, ◌/◌, ◌%◌, ◌≤◌, ◌<◌}
use mathlib.Core.Path.{◌≡◌, ap, sym, ◌∙◌}
use mathlib.Core.List.{List, [], ◌∷◌, ◌++◌, append_assoc}
use native.Mathlib.Numerals.{add-one}
use native.Mathlib.Omega.{arith}
use lib.ListN.{length, set, take, length-append}
use lib.Seq.{sets, drop-drop}
use borrow.Rule.Slice.PartMut.{put_mid}
use Rattle.std.proofs.lemmas.List.Edits.{sets-eq}
use lib.Dec.{ltb}
use borrow.Author.Tests.{lt-ltb, le-ltb}
use Rattle.lists.proofs.Below.{sets-append}
use Rattle.lists.proofs.Tests.{by_bool}
use Rattle.std.specs.Fmt as Fmt
use Rattle.std.proofs.lemmas.Fmt.{decimal_from_appends, length-decimal-le}
use Rattle.printing.specs.Print.{digits, decimal, printed}

-- room for one digit more changes nothing
digits-room : (n x : ℕ) → x < 10 ^ suc n → digits (suc n) x ≡ digits (suc (suc n)) x
unfolding digits
digits-room zero x h = rw (lt-ltb x 10 (omega arith))
digits-room (suc n) x h = by_bool (ltb x 10)
    (λ s. rw s)
    (λ m. rw (m, digits-room n (x / 10) (omega arith)))

pub decimal-small : (x : ℕ) → x < 10 → decimal x ≡ (48 + x) ∷ []
unfolding decimal digits
decimal-small x h = rw (lt-ltb x 10 h)

-- the last digit split off
digits_more : (n x : ℕ) → 10 ≤ x → digits (suc n) x ≡ digits n (x / 10) ++ ((48 + x % 10) ∷ [])
unfolding digits
digits_more n x h = rw (le-ltb x 10 h)

pub decimal-more : (x : ℕ) → 10 ≤ x → x < 4294967296 → decimal x ≡ decimal (x / 10) ++ ((48 + x % 10) ∷ [])
unfolding decimal
decimal-more x h b =
    digits_more 9 x h ∙ ap (λ (l : List ℕ). l ++ ((48 + x % 10) ∷ [])) (digits-room 8 (x / 10) (omega arith))

-- no digit more than there is room for
digits-short : (n x : ℕ) → length (digits n x) ≤ n
unfolding digits
digits-short zero x = omega arith
digits-short (suc n) x = by_bool (ltb x 10)
    (λ s. rw s (omega arith))
    (λ m. rw m (simp length-append (omega (arith, digits-short n (x / 10)))))

-- at most ten digits
pub decimal-short : (x : ℕ) → length (decimal x) ≤ 10
unfolding decimal
decimal-short x = digits-short 10 x

-- they are the digits that the library writes
pub decimal_written : (x : ℕ) → x < 4294967296 → Fmt.decimal x ≡ decimal x
unfolding decimal digits
decimal_written x b = sym (decimal_from_appends digits (record { one = one; more = more }) 10 x (omega arith) (length-decimal-le 10 x (omega arith) (omega arith) (omega arith)))
  where
    one : (k n : ℕ) → n < 10 → digits (suc k) n ≡ (48 + n) ∷ []
    one k n h = rw (lt-ltb n 10 h)

    more : (k n : ℕ) → 10 ≤ n → digits (suc k) n ≡ digits k (n / 10) ++ ((48 + n % 10) ∷ [])
    more k n h = digits_more k n h

-- the digits in the place of as many bytes
pub put_digits : (l ds : List ℕ) (at n x : ℕ) → ds ≡ decimal x → n ≡ length (decimal x) → at + length (decimal x) ≤ length l
    → put_mid at n l ds ≡ sets l at (decimal x)
put_digits l ds at n x e en fits =
    rw (e, en)
    (ap (λ (rest : List ℕ). take at l ++ (decimal x ++ rest)) (drop-drop (length (decimal x)) at l)
    ∙ sym (append_assoc (take at l) (decimal x) _) ∙ sym (sets-eq (decimal x) l at fits))

pub put_two : (l : List ℕ) (at a b : ℕ) → set (set l at a) (at + 1) b ≡ sets l at (a ∷ b ∷ [])
put_two l at a b = rw (add-one at)

-- a byte, a run after it, and what follows
put-after : (l m : List ℕ) (at next b : ℕ) (xs ys : List ℕ) → next ≡ at + 1 + length xs → m ≡ sets (set l at b) (at + 1) xs
    → sets m next ys ≡ sets l at (b ∷ (xs ++ ys))
put-after l m at next b xs ys en em =
    rw (em, en, sets-append (set l at b) (at + 1) xs ys) (ap (λ (n : ℕ). sets (set l at b) n (xs ++ ys)) (add-one at))

-- a whole answer line, number after number
pub put-line : (l l₁ l₂ l₃ : List ℕ) (at letter refusal first second one two three : ℕ)
    → one ≡ at + 2 + length (decimal refusal) → l₁ ≡ sets (set (set l at letter) (at + 1) 32) (at + 2) (decimal refusal)
    → two ≡ one + 1 + length (decimal first) → l₂ ≡ sets (set l₁ one 32) (one + 1) (decimal first)
    → three ≡ two + 1 + length (decimal second) → l₃ ≡ sets (set l₂ two 32) (two + 1) (decimal second)
    → set l₃ three 10 ≡ sets l at (printed letter refusal first second)
unfolding printed
put-line l l₁ l₂ l₃ at letter refusal first second one two three e₁ m₁ e₂ m₂ e₃ m₃ =
    let p : at + 2 ≡ at + 1 + 1 = omega arith in
    let ends : List ℕ = decimal second ++ (10 ∷ []) in
    let rest : List ℕ = decimal first ++ (32 ∷ ends) in
    put-after l₂ l₃ two three 32 (decimal second) (10 ∷ []) e₃ m₃
    ∙ put-after l₁ l₂ one two 32 (decimal first) (32 ∷ ends) e₂ m₂
    ∙ put-after (set l at letter) l₁ (at + 1) one 32 (decimal refusal) (32 ∷ rest) (rw p at e₁) (rw p at m₁)
    ∙ ap (λ (n : ℕ). sets (set l at letter) n (32 ∷ (decimal refusal ++ (32 ∷ rest)))) (add-one at)

pub length-line : (letter refusal first second : ℕ)
    → length (printed letter refusal first second) ≡ length (decimal refusal) + length (decimal first) + length (decimal second) + 5
unfolding printed
length-line letter refusal first second = simp length-append (omega arith)
