-- A sheet line after line: what a line prints at most, where lines end, and what is left to run.
-- Assumes nothing.
use Prim.Native.Nat.{ℕ, suc, ◌+◌, ◌-◌, ◌*◌, ◌≤◌, ◌<◌}
use mathlib.Core.Path.{◌≡◌, refl, ap, ◌∙◌}
use mathlib.Core.Bool.{Bool, false}
use mathlib.Core.List.{List, [], ◌∷◌, ◌++◌}
use Rattle.std.specs.Prelude.{Option, None, Some}
use native.Mathlib.Omega.{arith}
use Rattle.std.proofs.Common.{min, get_or, true, take_all, Bor}
use Rattle.std.specs.Option.{MatchOption, unwrap_or}
use Rattle.std.proofs.lemmas.List.{get_or_append_left, take-append-le, append-nil}
use Rattle.std.proofs.Math.Seq.{drop-append_seam}
use lib.ListN.{length, take, drop, length-append, drop_of_length-le}
use lib.Seq.{sets, drop-cons}
use lib.Dec.{ltb, eqb}
use borrow.Author.Tests.{lt-ltb, le-ltb, ltb-false, ltb-true, eqb-true}
use Rattle.lists.proofs.Below.{sets-append}
use Rattle.lists.proofs.Tests.{by_bool, true-not-false}
use Rattle.table.specs.declared.Table.{Table}
use Rattle.calls.specs.declared.Call.{Call}
use Rattle.replies.specs.declared.Reply.{Reply}
use Rattle.parsing.specs.declared.Line.{Line}
use Rattle.parsing.specs.declared.Line.TheVariants as line
use Rattle.letters.specs.Letter.{start_letter, letter_of}
use Rattle.std.specs.List.{position_or_len, IsFirstMatchOrLen}
use Rattle.std.proofs.lemmas.List.Sums.{position_or_len_is}
use lib.Pointwise.{pointwise}
use Rattle.parsing.specs.Line.{line_of}
use Rattle.printing.specs.Print.{printed, question, answers_of, answered}
use Rattle.printing.proofs.Printing.{decimal-short, length-line}
use Rattle.sheet_start.specs.SheetStart.{Sheet, Done, sheet_of, start_run}
use Rattle.sheet_call.specs.SheetCall.{call_run}
use Rattle.line_run.specs.LineRun.{line_run}
use Rattle.sheet.specs.Sheet.{longer, lines_of, run, output_of, output_room}

-- at most 35 bytes a line
short : (letter refusal a b : ℕ) → length (printed letter refusal a b) ≤ 35
short letter refusal a b = omega (arith, length-line letter refusal a b, decimal-short refusal, decimal-short a, decimal-short b)

question-short : length question ≤ 35
unfolding question
question-short = omega arith

answered-short : (o : Option Call) (r : Reply) → length (answered o r) ≤ 35
unfolding answered
answered-short None r = question-short
answered-short (Some c) r = short (letter_of (Some c)) r.refusal ((answers_of c r).0) ((answers_of c r).1)

call-short : (s : Sheet) (u : Option Table) (o : Option Call) → length (call_run s u o).bytes ≤ 35
unfolding call_run
call-short s None o = question-short
call-short s (Some t) o = answered-short o _

line-short : (s : Sheet) (L : Option Line) → length (line_run s L).bytes ≤ 35
unfolding line_run start_run
line-short s (Some (line.Start capacity)) = short start_letter _ 0 0
line-short s (Some (line.Call call)) = call-short s s.table (Some call)
line-short s None = question-short

-- LF ends a line
abbrev pub is_lf : ℕ → Bool
is_lf b = eqb b 10

-- the first line, by the place of the first LF, and the others after it
first-line : (b : ℕ) (rest : List ℕ)
    → (let n = position_or_len is_lf (b ∷ rest) in lines_of (b ∷ rest) ≡ take n (b ∷ rest) ∷ lines_of (drop (suc n) (b ∷ rest)))
unfolding lines_of longer
first-line b [] = by_bool (eqb b 10) (λ e. rw e) (λ e. rw e)
first-line b (c ∷ rest) = by_bool (eqb b 10)
    (λ e. rw e)
    (λ e. let n : 1 + position_or_len is_lf (c ∷ rest) ≡ suc (position_or_len is_lf (c ∷ rest)) = omega arith in rw (e, first-line c rest, n))

pub line-first : (left : List ℕ) (n : ℕ) → 0 < length left → position_or_len is_lf left ≡ n → lines_of left ≡ take n left ∷ lines_of (drop (suc n) left)
line-first [] n l e = absurd (omega arith)
line-first (b ∷ rest) n l e = rw (← e) (first-line b rest)

last-byte : (xs : List ℕ) (n : ℕ) → length xs ≡ suc n → drop n xs ≡ get_or xs n 0 ∷ []
last-byte xs n e =
    let l : length xs ≤ suc n = omega arith in
    let d : drop (suc n) xs ≡ [] = drop_of_length-le xs l in
    rw (drop-cons xs n 0 (omega arith), d)

empty : (xs : List ℕ) → length xs ≡ 0 → xs ≡ []
empty [] e = refl
empty (x ∷ xs) e = absurd (omega arith)

-- a piece up to and with the first LF, and the line in it, which is what stands before the LF
module _ (left piece after : List ℕ) (i : ℕ) (split : left ≡ piece ++ after) (long : length piece ≡ min (i + 1) (length left)) (some : 0 < length left)
    (first : IsFirstMatchOrLen is_lf left i) where
  same-byte : (k : ℕ) → k < length piece → get_or piece k 0 ≡ get_or left k 0
  same-byte k l = rw (split, get_or_append_left piece after 0 k l)

  with-lf : i < length left → (pointwise eqb (drop (length piece - 1) piece) (10 ∷ []) ≡ true) × (lines_of left ≡ take (length piece - 1) piece ∷ lines_of after)
  with-lf l =
      let e : length piece ≡ suc i = omega (arith, long) in
      let j : length piece - 1 ≡ i = omega arith in
      let lf : get_or piece i 0 ≡ 10 = same-byte i (omega arith) ∙ eqb-true _ 10 (first.1 l 0) in
      let n : position_or_len is_lf left ≡ i = position_or_len_is is_lf left i 0 (omega arith) (λ k h. first.0 k 0 (omega arith) h) (λ h. first.1 l 0) in
      let front : take i left ≡ take i piece = rw (split, take-append-le i piece after (omega arith)) in
      let back : drop (suc i) left ≡ after = rw (split, ← e) (drop-append_seam piece after) in
      (rw (j, last-byte piece i e, lf), rw (j, line-first left i some n, front, back))

  without-lf : length left ≤ i → (pointwise eqb (drop (length piece - 1) piece) (10 ∷ []) ≡ false) × (lines_of left ≡ piece ∷ lines_of after)
  without-lf l =
      let e : length piece ≡ length left = omega (arith, long) in
      let j : length piece ≡ suc (length piece - 1) = omega arith in
      let rest : after ≡ [] = empty after (omega (arith, simp length-append at (ap length split))) in
      let same : left ≡ piece = split ∙ rw rest (append-nil piece) in
      let other : eqb (get_or piece (length piece - 1) 0) 10 ≡ false = rw (same-byte (length piece - 1) (omega arith)) (first.0 (length piece - 1) 0 (omega arith) (omega arith)) in
      let n : position_or_len is_lf left ≡ length left = position_or_len_is is_lf left (length left) 0 (omega arith) (λ k h. first.0 k 0 (omega arith) (omega arith)) (λ h. absurd (omega arith)) in
      let past : length left ≤ suc (length left) = omega arith in
      let none : drop (suc (length left)) left ≡ [] = drop_of_length-le left past in
      (rw (last-byte piece (length piece - 1) j, other), line-first left (length left) some n ∙ rw (take_all (length left) left (omega arith), none, rest, same))

  pub shorter : length after < length left
  shorter = omega (arith, long, simp length-append at (ap length split))

  -- what stripping the LF gives
  pub line_in : (r : Option (Bor (List ℕ))) (p u : Bor (List ℕ)) → p.now ≡ piece → u ≡ unwrap_or r p
      → MatchOption r (pointwise eqb (drop (length piece - 1) piece) (10 ∷ []) ≡ false) (λ x. (pointwise eqb (drop (length piece - 1) piece) (10 ∷ []) ≡ true) × (x.now ≡ take (length piece - 1) piece) × (length x.now + 1 ≡ length piece))
      → lines_of left ≡ u.now ∷ lines_of after
  line_in None p u a b m = by_bool (ltb i (length left))
      (λ t. let w = with-lf (ltb-true i (length left) t) in absurd (true-not-false w.0 m))
      (λ f. let w = without-lf (ltb-false i (length left) f) in rw (b, a) w.1)
  line_in (Some x) p u a b m = by_bool (ltb i (length left))
      (λ t. let w = with-lf (ltb-true i (length left) t) in rw (b, m.1) w.1)
      (λ f. let w = without-lf (ltb-false i (length left) f) in absurd (true-not-false m.0 w.0))

-- a sheet from a table in use on, and the whole of it
abbrev pub rest : Option Table → List ℕ → List ℕ → Done
rest u m left = run (sheet_of u m) (lines_of left)

abbrev pub whole : List ℕ → List ℕ → Done
whole input m = rest None m input

-- what is left, put after what is printed, makes up the whole, and there is room for it
pub record Left (input m₀ out₀ : List ℕ) (u : Option Table) (m out left : List ℕ) (at : ℕ) : Type 0 where
  pub bytes : sets out at (rest u m left).bytes ≡ sets out₀ 0 (whole input m₀).bytes
  pub number : at + length (rest u m left).bytes ≡ length (whole input m₀).bytes
  pub sheet : (rest u m left).sheet ≡ (whole input m₀).sheet
  pub room : at + 35 * length left ≤ 35 * length input

module _ (input m₀ out₀ : List ℕ) where
  pub all_left : Left input m₀ out₀ None m₀ out₀ input 0
  all_left = record { bytes = refl; number = omega arith; sheet = refl; room = omega arith }

  -- one line more
  pub one-done : (u u' : Option Table) (m m' out out' left line left' : List ℕ) (at next : ℕ) → Left input m₀ out₀ u m out left at
      → lines_of left ≡ line ∷ lines_of left' → length left' < length left
      → next ≡ at + length (line_run (sheet_of u m) (line_of line)).bytes
      → out' ≡ sets out at (line_run (sheet_of u m) (line_of line)).bytes
      → sheet_of u' m' ≡ (line_run (sheet_of u m) (line_of line)).sheet
      → Left input m₀ out₀ u' m' out' left' next
  unfolding run
  one-done u u' m m' out out' left line left' at next L f l n b k =
      let d : Done = line_run (sheet_of u m) (line_of line) in
      let after : Done = rest u' m' left' in
      let split : rest u m left ≡ record { bytes = d.bytes ++ after.bytes; sheet = after.sheet } = rw (f, k) in
      record {
        bytes = rw (n, b, sets-append out at d.bytes after.bytes) (rw split at L.bytes);
        number = rw n (omega (arith, rw split at L.number, length-append d.bytes after.bytes));
        sheet = rw split at L.sheet;
        room = omega (arith, n, L.room, line-short (sheet_of u m) (line_of line));
      }

  -- the answers: nothing is left, or the input is too long
  pub none_left : (u : Option Table) (m out left : List ℕ) (at : ℕ) → Left input m₀ out₀ u m out left at → length left ≡ 0 → length input ≤ 65536
      → (at ≡ length (output_of input m₀).bytes) × ((out ≡ sets out₀ 0 (output_of input m₀).bytes) × (m ≡ (output_of input m₀).sheet.medium))
  unfolding output_of run lines_of
  none_left u m out [] at L h k =
      rw (le-ltb 65536 (length input) k) (omega (arith, L.number), (L.bytes, ap (λ (s : Sheet). s.medium) L.sheet))
  none_left u m out (b ∷ left) at L h k = absurd (omega arith)

  pub when_too_long : (out : List ℕ) (at : ℕ) → 65536 < length input → at ≡ 0 + length question → out ≡ sets out₀ 0 question
      → (at ≡ length (output_of input m₀).bytes) × ((out ≡ sets out₀ 0 (output_of input m₀).bytes) × (m₀ ≡ (output_of input m₀).sheet.medium))
  unfolding output_of
  when_too_long out at h n b = rw (lt-ltb 65536 (length input) h) (omega (arith, n), (b, refl))

-- at most 35 bytes for each byte of the input
run_short : (s : Sheet) (lines : List (List ℕ)) → length (run s lines).bytes ≤ 35 * length lines
unfolding run
run_short s [] = omega arith
run_short s (l ∷ lines) =
    rw length-append (omega (arith, line-short s (line_of l), run_short (line_run s (line_of l)).sheet lines))

longer-few : (b : ℕ) (lines : List (List ℕ)) (n : ℕ) → length lines ≤ n → length (longer b lines) ≤ suc n
unfolding longer
longer-few b [] n h = omega arith
longer-few b (l ∷ lines) n h = omega arith

lines-few : (input : List ℕ) → length (lines_of input) ≤ length input
unfolding lines_of
lines-few [] = omega arith
lines-few (b ∷ rest) = by_bool (eqb b 10)
    (λ e. rw e (omega (arith, lines-few rest)))
    (λ e. rw e (longer-few b (lines_of rest) (length rest) (lines-few rest)))

-- the room asked for: two bytes for any input but none, and enough for each line where the lines are run
module _ (n m : ℕ) (h : output_room n ≤ m) where
  pub room-question : 0 < n → 2 ≤ m
  unfolding output_room question
  room-question l = by_bool (ltb 65536 n)
      (λ e. rw e at h)
      (λ e. omega (arith, rw e at h))

  pub room-lines : n ≤ 65536 → 35 * n ≤ m
  unfolding output_room
  room-lines l = rw (le-ltb 65536 n l) at h

-- the longest input needs most
pub room-enough : (n : ℕ) → output_room n ≤ 2293760
unfolding output_room question
room-enough n = by_bool (ltb 65536 n)
    (λ e. rw e (omega arith))
    (λ e. rw e (omega (arith, ltb-false 65536 n e)))

output-short : (input m : List ℕ) → length (output_of input m).bytes ≤ output_room (length input)
unfolding output_of output_room
output-short input m = by_bool (ltb 65536 (length input))
    (λ e. rw e (omega arith))
    (λ e. rw e (omega (arith, run_short (record { table = None; medium = m }) (lines_of input), lines-few input)))

-- so what a run answers lies in its buffer
pub output-fits : (input m : List ℕ) (r n : ℕ) → r ≡ length (output_of input m).bytes → output_room (length input) ≤ n → r ≤ n
output-fits input m r n e h = omega (arith, output-short input m)
