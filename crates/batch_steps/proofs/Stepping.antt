-- A batch step by step: what the code puts together for one id at one server, and for one position more.
-- Assumes nothing.
use Prim.Native.Nat.{ℕ, suc, ◌+◌, ◌<◌}
use mathlib.Core.Path.{◌≡◌, refl, sym, ap, ◌∙◌}
use mathlib.Core.Logic.{◌≢◌}
use mathlib.Core.Bool.{Bool, true, false, cond}
use mathlib.Core.List.{List}
use Rattle.std.specs.Prelude.{Option, None, Some, Result, Ok, Err, eqb}
use native.Mathlib.Numerals.{add-one}
use native.Mathlib.Omega.{arith}
use lib.ListN.{length, set, get_or}
use Rattle.std.proofs.lemmas.List.{get_or-map, map-set}
use borrow.Author.Tests.{eq-eqb, ne_eqb}
use Rattle.lists.specs.Below.{nth, highest, set_below}
use Rattle.lists.proofs.Tests.{by_bool}
use Rattle.lists.proofs.Below.{set_below-above, set_below-more}
use Rattle.draws.specs.Draw.{modulus, draw_of}
use Rattle.placement.specs.declared.Fraction.{Fraction}
use Rattle.placement.specs.Fraction.{exceeds}
use Rattle.medium.specs.Entry.{live}
use Rattle.table.specs.declared.Shape.{Shape}
use Rattle.replies.specs.declared.Reply.{Reply}
use Rattle.replies.specs.declared.Refusal.{Refusal}
use Rattle.replies.specs.declared.Refusal.TheVariants.{NotFound}
use Rattle.replies.specs.declared.LookupAnswer.{LookupAnswer}
use Rattle.replies.specs.Reply.{refused, number_of, found_or, reply_of_lookup}
use Rattle.replies.proofs.Distinct.{numbers_apart, lookup_opened}
use Rattle.batch_answer.specs.Answer.{column}
use Rattle.batch_answer.proofs.Columns.{column-at}
use Rattle.batch_begin.specs.declared.Parts.{Parts}
use Rattle.lookup.specs.Lookup.{met_reply}
use Rattle.search.proofs.Searches.{highest-at}
use Rattle.batch_begin.specs.Begin.{Columns, columns_of}
use Rattle.batch_steps.specs.Steps.{Progress, column_by, columns_by, progress_of, visited, stepped, progress_at, with_parts, stepped_at}

-- the newest entry of an id is used
pub newest-used : (capacity used : ℕ) (m : List ℕ) (id k : ℕ) {o : Option ℕ} → o ≡ highest (live capacity used m id k) used → (j : ℕ) → o ≡ Some j → j < used
newest-used capacity used m id k e j g = (highest-at _ used j (sym e ∙ g)).0

-- server k for an id with this part so far
module _ (read : Fraction) (shape : Shape) (used : ℕ) (m : List ℕ) (id k : ℕ) (p : Progress) where
  abbrev next_part : Progress
  next_part = stepped read shape used m id k p

  -- its search has ended
  pub step-settled : p.refusal ≢ 8 → p ≡ next_part
  unfolding stepped
  step-settled a = rw (ne_eqb p.refusal 8 a)

  -- it is absent so far; r is what the code's test of the server answers
  module _ (a : p.refusal ≡ 8) {r : Bool} (e : r ≡ exceeds modulus read (draw_of shape.salt id k)) where
    pub step-tested : (b : Bool) → r ≡ b → next_part ≡ cond b (visited shape.capacity m k (suc p.opened) (highest (live shape.capacity used m id k) used)) p
    unfolding stepped
    step-tested b d = rw (eq-eqb p.refusal 8 a, sym e ∙ d)

    pub step-skipped : r ≡ false → p ≡ next_part
    step-skipped d = sym (step-tested false d)

    -- it is opened, and o is its newest entry
    module _ (d : r ≡ true) {o : Option ℕ} (f : o ≡ highest (live shape.capacity used m id k) used) where
      pub step-passed : o ≡ None → record { refusal = 8; value = 0; opened = p.opened + 1; end = k + 1 } ≡ next_part
      unfolding visited
      step-passed g = sym (step-tested true d ∙ rw (sym f ∙ g, add-one p.opened, add-one k))

      pub step-met : (j : ℕ) → o ≡ Some j → {y : Reply} → y ≡ met_reply shape.capacity m (p.opened + 1) (Some (record { server = k; entry = j }))
          → record { refusal = y.refusal; value = y.value; opened = p.opened + 1; end = k + 1 } ≡ next_part
      unfolding visited
      step-met j g h = sym (step-tested true d ∙ rw (sym f ∙ g, h, add-one p.opened, add-one k))

      -- the same of an answer's numbers: it is counted first, and x are its numbers then
      module _ {x : Reply} (c : x ≡ refused 8 (p.opened + 1)) where
        pub counted-passed : o ≡ None → progress_of x (k + 1) ≡ next_part
        counted-passed g = ap (λ (z : Reply). progress_of z (k + 1)) c ∙ step-passed g

        pub counted-met : (j : ℕ) → o ≡ Some j → (v : Result ℕ Refusal)
            → ((l : ℕ) → found_or v l ≡ met_reply shape.capacity m l (Some (record { server = k; entry = j })))
            → {y : Reply} → y ≡ found_or v x.opened → progress_of y (k + 1) ≡ next_part
        unfolding reply_of_lookup
        counted-met j g v u {y} e =
            let n : x.opened ≡ p.opened + 1 = ap (λ (z : Reply). z.opened) c in
            let l : y.opened ≡ p.opened + 1 = ap (λ (z : Reply). z.opened) e ∙ lookup_opened (record { value = v; opened = x.opened }) ∙ n in
            (λ i. record { refusal = y.refusal; value = y.value; opened = l i; end = k + 1 })
            ∙ step-met j g (e ∙ ap (found_or v) n ∙ u (p.opened + 1))

-- an answer of number 8 is absent, and no other
absent-value : (v : Result ℕ Refusal) (n : ℕ) → (found_or v n).refusal ≡ 8 → v ≡ Err NotFound
unfolding found_or number_of
absent-value (Ok v) n e = absurd (omega arith)
absent-value (Err r) n e = ap Err (numbers_apart r NotFound e)

-- the answer so far of an id and its end
module _ (a : LookupAnswer) (end : ℕ) where
  pub not-absent : a.value ≢ Err NotFound → (progress_of (reply_of_lookup a) end).refusal ≢ 8
  unfolding reply_of_lookup
  not-absent f e = f (absent-value a.value a.opened e)

  pub is-absent : a.value ≡ Err NotFound → (progress_of (reply_of_lookup a) end).refusal ≡ 8
  unfolding reply_of_lookup found_or number_of
  is-absent v = rw v refl

pub absent_by_value : (a : LookupAnswer) {b : Bool} → (b ≡ true → a.value ≡ Err NotFound) → (b ≡ false → a.value ≢ Err NotFound) → b ≡ eqb (reply_of_lookup a).refusal 8
absent_by_value a {b} same other = by_bool b
    (λ e. e ∙ sym (eq-eqb _ 8 (is-absent a 0 (same e))))
    (λ e. e ∙ sym (ne_eqb _ 8 (not-absent a 0 (other e))))

-- a server more is opened for an id, and an entry is met there
pub counted_answer : (a : LookupAnswer) → (reply_of_lookup a).refusal ≡ 8
    → reply_of_lookup (record { value = a.value; opened = a.opened + 1 }) ≡ refused 8 ((reply_of_lookup a).opened + 1)
unfolding reply_of_lookup found_or number_of
counted_answer a e =
    ap (λ (v : Result ℕ Refusal). found_or v (a.opened + 1)) (absent-value a.value a.opened e)
    ∙ ap (λ (n : ℕ). refused 8 (n + 1)) (sym (lookup_opened a))

pub met_answer : (a : LookupAnswer) (v : Result ℕ Refusal) → reply_of_lookup (record { value = v; opened = a.opened }) ≡ found_or v (reply_of_lookup a).opened
unfolding reply_of_lookup
met_answer a v = ap (found_or v) (sym (lookup_opened a))

-- how far the lookup of the id is then, with no entry there or with one
module _ (a : LookupAnswer) (end : ℕ) (v : a.value ≡ Err NotFound) where
  pub passed-answer : (e : ℕ) → progress_of (reply_of_lookup (record { value = a.value; opened = a.opened + 1 })) e
      ≡ record { refusal = 8; value = 0; opened = (progress_of (reply_of_lookup a) end).opened + 1; end = e }
  passed-answer e = ap (λ (x : Reply). progress_of x e) (counted_answer a (is-absent a end v))

  pub met-answer : (w : Result ℕ Refusal) (e : ℕ) → progress_of (reply_of_lookup (record { value = w; opened = a.opened + 1 })) e
      ≡ record {
        refusal = (found_or w ((progress_of (reply_of_lookup a) end).opened + 1)).refusal;
        value = (found_or w ((progress_of (reply_of_lookup a) end).opened + 1)).value;
        opened = (progress_of (reply_of_lookup a) end).opened + 1;
        end = e;
      }
  unfolding reply_of_lookup
  met-answer w e = rw (lookup_opened a, lookup_opened (record { value = w; opened = a.opened + 1 })) refl

-- answers to lookups have the columns of their replies
pub columns-same : (parts : Parts LookupAnswer) → columns_by reply_of_lookup parts ≡ columns_of parts
unfolding column_by column
columns-same parts = refl

-- such an answer is read at any position, since where there is none the numbers are 0
module _ (parts : Parts LookupAnswer) (i : ℕ) where
  abbrev unanswered : LookupAnswer
  unanswered = record { value = Ok 0; opened = 0 }

  pub part-read : progress_of (reply_of_lookup (get_or parts.answers i unanswered)) (nth parts.ends i) ≡ progress_at (columns_of parts) i
  unfolding reply_of_lookup found_or
  part-read =
      let r = column-at (λ (x : Reply). x.refusal) parts.answers i unanswered refl in
      let v = column-at (λ (x : Reply). x.value) parts.answers i unanswered refl in
      let o = column-at (λ (x : Reply). x.opened) parts.answers i unanswered refl in
      λ k. record { refusal = sym r k; value = sym v k; opened = sym o k; end = nth parts.ends i }

  pub opened-read : (get_or parts.answers i unanswered).opened ≡ nth (columns_of parts).opened i
  opened-read = sym (lookup_opened (get_or parts.answers i unanswered)) ∙ ap (λ (p : Progress). p.opened) part-read

-- the parts of all ids by position, whatever numbers their answers have: read and stored
module _ {A : Type 0} (numbers : A → Reply) (parts : Parts A) (i : ℕ) where
  pub element-read : i < length parts.answers → (d : A) → progress_of (numbers (get_or parts.answers i d)) (nth parts.ends i) ≡ progress_at (columns_by numbers parts) i
  unfolding column_by
  element-read l d =
      let r = get_or-map (λ (x : A). (numbers x).refusal) parts.answers i d 0 l in
      let v = get_or-map (λ (x : A). (numbers x).value) parts.answers i d 0 l in
      let o = get_or-map (λ (x : A). (numbers x).opened) parts.answers i d 0 l in
      λ k. record { refusal = sym r k; value = sym v k; opened = sym o k; end = nth parts.ends i }

  pub part-stored : (a : A) (e : ℕ) → columns_by numbers (record { answers = set parts.answers i a; ends = set parts.ends i e })
      ≡ record {
        refusals = set (columns_by numbers parts).refusals i (numbers a).refusal;
        values = set (columns_by numbers parts).values i (numbers a).value;
        opened = set (columns_by numbers parts).opened i (numbers a).opened;
        ends = set (columns_by numbers parts).ends i e;
      }
  unfolding column_by
  part-stored a e =
      let r = map-set (λ (x : A). (numbers x).refusal) parts.answers i a in
      let v = map-set (λ (x : A). (numbers x).value) parts.answers i a in
      let o = map-set (λ (x : A). (numbers x).opened) parts.answers i a in
      λ k. record { refusals = r k; values = v k; opened = o k; ends = set parts.ends i e }

-- server k for the ids below n
module _ (read : Fraction) (shape : Shape) (used : ℕ) (m ids : List ℕ) (k : ℕ) (parts : Columns) (n : ℕ) {next : Columns}
    (e : next ≡ with_parts (stepped_at read shape used m ids k parts) n parts) where
  abbrev part_at : ℕ → Progress
  part_at = stepped_at read shape used m ids k parts

  above : (f : ℕ → ℕ) (xs : List ℕ) → nth (set_below f n xs) n ≡ nth xs n
  above f xs = set_below-above f n xs n (omega arith)

  -- the next id's part is still that before
  pub part-here : progress_at next n ≡ progress_at parts n
  unfolding with_parts
  part-here = rw (
    e,
    above (λ i. (part_at i).refusal) parts.refusals,
    above (λ i. (part_at i).value) parts.values,
    above (λ i. (part_at i).opened) parts.opened,
    above (λ i. (part_at i).end) parts.ends,
  )

  -- one position more, as a loop counts
  pub part-more : {p o : Progress} → p ≡ stepped read shape used m (nth ids n) k o → o ≡ progress_at next n → record {
    refusals = set next.refusals n p.refusal;
    values = set next.values n p.value;
    opened = set next.opened n p.opened;
    ends = set next.ends n p.end;
  } ≡ with_parts part_at (n + 1) parts
  unfolding with_parts stepped_at
  part-more {p} d f =
      let q : p ≡ part_at n = d ∙ ap (stepped read shape used m (nth ids n) k) (f ∙ part-here) in
      rw (
        set_below-more (λ i. (part_at i).refusal) n parts.refusals next.refusals _ (ap (λ (x : Columns). x.refusals) e) (ap (λ (x : Progress). x.refusal) q),
        set_below-more (λ i. (part_at i).value) n parts.values next.values _ (ap (λ (x : Columns). x.values) e) (ap (λ (x : Progress). x.value) q),
        set_below-more (λ i. (part_at i).opened) n parts.opened next.opened _ (ap (λ (x : Columns). x.opened) e) (ap (λ (x : Progress). x.opened) q),
        set_below-more (λ i. (part_at i).end) n parts.ends next.ends _ (ap (λ (x : Columns). x.ends) e) (ap (λ (x : Progress). x.end) q),
      )
