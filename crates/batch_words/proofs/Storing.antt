-- What a batch of lookups ensures, by whether the runs are long enough and by whether the list is refused.
-- Assumes nothing.
use Prim.Native.Nat.{ℕ, zero, suc, ◌*◌, ◌≤◌, ◌<◌}
use mathlib.Core.Path.{◌≡◌, refl, sym, ap, ap₂, ◌∙◌}
use mathlib.Core.Bool.{Bool, true, false, not, ◌&&◌, and-false}
use mathlib.Core.List.{List, ◌++◌}
use native.Mathlib.Omega.{arith}
use lib.ListN.{length, set, get_or, take, drop}
use lib.Seq.{paste}
use Rattle.lists.proofs.Listed.{set_below-take}
use Rattle.std.proofs.lemmas.List.{get_or-take, length-take-le}
use lib.Dec.{leb, eqb}
use borrow.Author.Tests.{le-leb, lt-leb, leb-true, ltb-false, eqb-true, eqb-false, ne_eqb}
use Rattle.limits.specs.Limits.{max_ids}
use Rattle.lists.specs.Below.{nth, total, set_below}
use Rattle.lists.proofs.Tests.{and_l, and_r, by_bool}
use Rattle.lists.proofs.Below.{set_below-cong, set-nth}
use Rattle.table.specs.declared.Table.{Table}
use Rattle.table.specs.Sound.{sound}
use Rattle.table_words.specs.Words.{table_length, table_from, with_table}
use Rattle.upkeep.specs.Upkeep.{with_opened}
use Rattle.replies.specs.declared.Reply.{Reply}
use Rattle.replies.specs.declared.Refusal.{Refusal}
use Rattle.replies.specs.declared.LookupAnswer.{LookupAnswer}
use Rattle.replies.specs.Reply.{number_of, found_or, reply_of_lookup}
use Rattle.replies.proofs.Answers.{number-not-zero}
use Rattle.std.specs.Prelude.{Result, Ok, Err, All}
use Rattle.std.proofs.lemmas.List.Elements.{All-get_or, All-take}
use Rattle.replies.proofs.Distinct.{lookup_opened}
use Rattle.batch_answer.proofs.Columns.{column-at}
use Rattle.batch.proofs.Counting.{counted-whole}
use Rattle.replies.specs.Refusal.{first_of}
use Rattle.replies.proofs.Refusals.{settle-yes, settle-no, passed}
use Rattle.lookup.specs.Lookup.{lookup_reply}
use Rattle.lookup.proofs.Plain.{lookup-plain}
use Rattle.batch_answer.specs.declared.Batch.{Batch}
use Rattle.batch_answer.specs.Answer.{BatchReply, opened_counts_of, reply_of_batch, order, batch_by, too_long, refused_batch, settled_batch}
use Rattle.batch_answer.proofs.Filled.{filled_at}
use Rattle.batch_answer.proofs.Orders.{mounts-few}
use Rattle.batch.specs.Batch.{opened_at, batch_rows, batch_reply}
use Rattle.encoding.specs.Encoding.{reply_length, too_short, with_reply}
use Rattle.replay.specs.Replay.{with_replies}
use Rattle.batch_words.specs.BatchWords.{fits_batch, batch_stored, after_batch, lookup_part}

-- numbers pasted at the front are stored there
pub paste-front : (xs ys : List ℕ) → length xs ≤ length ys → paste ys 0 xs (length xs) ≡ set_below (nth xs) (length xs) ys
paste-front xs ys few =
    ap (λ (n : ℕ). take (length xs) xs ++ drop n ys) (omega arith) ∙ sym (set_below-take xs ys (length xs) (omega arith) few)

-- whether the runs are long enough, by the lengths of the table and of the mounts and by the test of the others
module _ (n : ℕ) (table replies order mounts : List ℕ) where
  abbrev pub Others : Bool → Type 0
  Others b = (leb (reply_length * n) (length replies) && leb n (length order)) ≡ b

  pub no_table : length table < table_length → false ≡ fits_batch n table replies order mounts
  unfolding fits_batch
  no_table l = rw (lt-leb _ _ l)

  pub no_mounts : length mounts < 1 → false ≡ fits_batch n table replies order mounts
  unfolding fits_batch
  no_mounts l = rw (lt-leb 1 (length mounts) l, and-false (leb n (length order)), and-false (leb (reply_length * n) (length replies)), and-false (leb table_length (length table)))

  pub no_room : Others false → false ≡ fits_batch n table replies order mounts
  unfolding fits_batch
  no_room e = by_bool (leb (reply_length * n) (length replies))
      (λ r. let o : leb n (length order) ≡ false = rw r at e in rw (r, o, and-false (leb table_length (length table))))
      (λ r. rw (r, and-false (leb table_length (length table))))

  -- what follows where the others are
  pub record Fits : Type 0 where
    pub has_replies : reply_length * n ≤ length replies
    pub has_order : n ≤ length order

  pub long-runs : Others true → Fits
  long-runs e = record {
    has_replies = leb-true _ _ (and_l (leb (reply_length * n) (length replies)) _ e);
    has_order = leb-true _ _ (and_r (leb (reply_length * n) (length replies)) _ e);
  }

  pub room : table_length ≤ length table → 1 ≤ length mounts → Others true → true ≡ fits_batch n table replies order mounts
  unfolding fits_batch
  room l k e = rw (le-leb _ _ l, le-leb _ _ k, le-leb _ _ (long-runs e).has_replies, le-leb _ _ (long-runs e).has_order)

-- the mounts' first word is stored as it was
pub mount-kept : (mounts : List ℕ) {mount : ℕ} → mount ≡ nth mounts 0 → set mounts 0 mount ≡ mounts
mount-kept mounts e = ap (set mounts 0) e ∙ set-nth mounts 0

-- the answer to a list that is not refused
module _ (t : Table) (m : List ℕ) (tenant : ℕ) (ids : List ℕ) (a : BatchReply) (is : a ≡ batch_reply t m tenant ids) where
  -- a refused list's answer has its number
  accepted-rows : a.refusal ≡ 0 → first_of (batch_rows t ids) ≡ 0
  unfolding batch_reply settled_batch
  accepted-rows z = by_bool (eqb (first_of (batch_rows t ids)) 0)
      (λ e. eqb-true _ 0 e)
      (λ e. let f : a ≡ refused_batch (first_of (batch_rows t ids)) = is ∙ settle-no (batch_rows t ids) _ _ (eqb-false _ 0 e) in sym (ap (λ (x : BatchReply). x.refusal) f) ∙ z)

  module _ (z : a.refusal ≡ 0) where
    few : length ids ≤ 256
    unfolding batch_rows too_long
    few = ltb-false 256 (length ids) (passed 1 (too_long ids) _ (passed 0 (too_long ids && not (sound t)) _ (accepted-rows z)).1).0

    -- its parts
    whole : a ≡ batch_by (λ i. (lookup_reply t m tenant (nth ids i)).refusal) (λ i. (lookup_reply t m tenant (nth ids i)).value) (λ i. (lookup_reply t m tenant (nth ids i)).opened) (opened_at t m tenant ids) (length ids) t.count
    unfolding batch_reply settled_batch
    whole = is ∙ settle-yes (batch_rows t ids) _ _ (accepted-rows z)

    -- the part of each id is that of a lookup of it alone
    record Alone (i : ℕ) : Type 0 where
      refusal : nth a.refusals i ≡ (lookup_reply t m tenant (nth ids i)).refusal
      value : nth a.values i ≡ (lookup_reply t m tenant (nth ids i)).value
      opened : nth a.opened i ≡ (lookup_reply t m tenant (nth ids i)).opened

    alone : (i : ℕ) → i < length ids → Alone i
    unfolding batch_by
    alone i l = record {
      refusal = ap (λ (c : BatchReply). nth c.refusals i) whole ∙ filled_at (λ j. (lookup_reply t m tenant (nth ids j)).refusal) (length ids) few i l;
      value = ap (λ (c : BatchReply). nth c.values i) whole ∙ filled_at (λ j. (lookup_reply t m tenant (nth ids j)).value) (length ids) few i l;
      opened = ap (λ (c : BatchReply). nth c.opened i) whole ∙ filled_at (λ j. (lookup_reply t m tenant (nth ids j)).opened) (length ids) few i l;
    }

    few-mounts : t.count < 4294967296 → a.mounts < 4294967296
    unfolding batch_by
    few-mounts l = omega (arith, ap (λ (c : BatchReply). c.mounts) whole, mounts-few (opened_at t m tenant ids) (length ids) t.count)

-- a reply to a lookup carries no server and no invalidations
answer-plain : (v : Result ℕ Refusal) (n : ℕ) → ((found_or v n).server ≡ 0) × ((found_or v n).invalidated ≡ 0)
unfolding found_or
answer-plain (Ok v) n = (refl, refl)
answer-plain (Err r) n = (refl, refl)

-- the same of the code's answer
module _ (t : Table) (m : List ℕ) (tenant : ℕ) (ids : List ℕ) {a : Result Batch Refusal} (is : reply_of_batch a ≡ batch_reply t m tenant ids) {b : Batch} (f : a ≡ Ok b) where
  answered : reply_of_batch (Ok b) ≡ batch_reply t m tenant ids
  answered = sym (ap reply_of_batch f) ∙ is

  no_refusal : (reply_of_batch (Ok b)).refusal ≡ 0
  unfolding reply_of_batch
  no_refusal = refl

  pub few-ids : length ids ≤ 256
  few-ids = few t m tenant ids _ answered no_refusal

  pub part-is : (i : ℕ) → i < length ids → lookup_part b.answers i ≡ lookup_reply t m tenant (nth ids i)
  unfolding lookup_part reply_of_batch reply_of_lookup found_or
  part-is i l =
      let d : LookupAnswer = record { value = Ok 0; opened = 0 } in
      let o = get_or b.answers i d in
      let q = answer-plain o.value o.opened in
      let p = lookup-plain t m tenant (nth ids i) in
      let s = alone t m tenant ids _ answered no_refusal i l in
      let x = sym (column-at (λ (r : Reply). r.refusal) b.answers i d refl) ∙ s.refusal in
      let y = sym (column-at (λ (r : Reply). r.value) b.answers i d refl) ∙ s.value in
      let w = sym (column-at (λ (r : Reply). r.opened) b.answers i d refl) ∙ s.opened in
      λ k. record { refusal = x k; server = (q.0 ∙ sym p.server) k; value = y k; opened = w k; invalidated = (q.1 ∙ sym p.invalidated) k }

  pub mounts-small : t.count < 4294967296 → b.mounts < 4294967296
  unfolding reply_of_batch
  mounts-small l = few-mounts t m tenant ids _ answered no_refusal l

-- replies that are the same by position
replies-same : (f g : ℕ → Reply) (n : ℕ) (words : List ℕ) → ((i : ℕ) → i < n → f i ≡ g i) → with_replies f n words ≡ with_replies g n words
unfolding with_replies
replies-same f g zero words h = refl
replies-same f g (suc n) words h = ap₂ (λ (w : List ℕ) (r : Reply). with_reply w n r) (replies-same f g n words (λ i l. h i (omega arith))) (h n (omega arith))

-- the first n numbers of a list, taken apart and stored
front-put : (xs words : List ℕ) (n : ℕ) → n ≤ length xs → set_below (nth (take n xs)) (length (take n xs)) words ≡ set_below (nth xs) n words
front-put xs words n l = rw (length-take-le n xs l) (set_below-cong (nth (take n xs)) (nth xs) n words (λ i b. get_or-take n xs i 0 b))

-- what `lookup_batch` ensures where it answers a number
abbrev pub Done : List ℕ → List ℕ → ℕ → List ℕ → List ℕ → List ℕ → List ℕ → ℕ → List ℕ → List ℕ → List ℕ → List ℕ → Type 0
Done table m tenant ids replies order mounts number table' replies' order' mounts' =
    (number ≡ (after_batch table m tenant ids replies order mounts).number)
    × ((table' ≡ (after_batch table m tenant ids replies order mounts).table)
    × ((replies' ≡ (after_batch table m tenant ids replies order mounts).replies)
    × ((order' ≡ (after_batch table m tenant ids replies order mounts).order)
    × (mounts' ≡ (after_batch table m tenant ids replies order mounts).mounts))))

module _ (table m : List ℕ) (tenant : ℕ) (ids replies order mounts : List ℕ) (long : Bool) (told : long ≡ fits_batch (length ids) table replies order mounts) where
  pub batch-short : long ≡ false → Done table m tenant ids replies order mounts too_short table replies order mounts
  unfolding after_batch
  batch-short e = let f : fits_batch (length ids) table replies order mounts ≡ false = sym told ∙ e in rw f (refl, (refl, (refl, (refl, refl))))

  module _ (yes : long ≡ true) (a : Result Batch Refusal) (is : reply_of_batch a ≡ batch_reply (table_from table) m tenant ids) where
    stored : after_batch table m tenant ids replies order mounts ≡ batch_stored table m tenant ids replies order mounts (reply_of_batch a)
    unfolding after_batch
    stored = let f : fits_batch (length ids) table replies order mounts ≡ true = sym told ∙ yes in rw (f, is)

    pub batch-refused : {r : Refusal} → a ≡ Err r → Done table m tenant ids replies order mounts (number_of r) table replies order mounts
    unfolding batch_stored reply_of_batch
    batch-refused {r} f = rw (stored, f, ne_eqb (number_of r) 0 (number-not-zero r)) (refl, (refl, (refl, (refl, refl))))

    pub batch-done : {b : Batch} → a ≡ Ok b → length b.order ≡ 256 → (opened : ℕ) → opened ≡ total (nth (opened_counts_of b.answers)) max_ids → (table' replies' order' mounts' : List ℕ)
        → table' ≡ with_table table (with_opened (table_from table) tenant opened)
        → replies' ≡ with_replies (lookup_part b.answers) (length ids) replies → order' ≡ set_below (nth (take (length ids) b.order)) (length (take (length ids) b.order)) order → mounts' ≡ set mounts 0 b.mounts
        → Done table m tenant ids replies order mounts 0 table' replies' order' mounts'
    unfolding batch_stored reply_of_batch
    batch-done {b} f wide opened o table' replies' order' mounts' t x y w =
        let s = counted-whole (table_from table) m tenant ids is f o in
        let parts-same : with_replies (lookup_part b.answers) (length ids) replies ≡ with_replies (λ i. lookup_reply (table_from table) m tenant (nth ids i)) (length ids) replies =
        replies-same _ _ _ replies (part-is (table_from table) m tenant ids is f) in
        rw (stored, f)
        (refl, (t ∙ ap (with_table table) s, (x ∙ parts-same, (y ∙ front-put b.order order (length ids) (omega (arith, wide, few-ids (table_from table) m tenant ids is f)), w))))

-- the answer at a position below n, read among the first n
module _ (answers : List LookupAnswer) (n i : ℕ) (l : i < n) where
  abbrev read : LookupAnswer
  read = get_or (take n answers) i (record { value = Ok 0; opened = 0 })

  pub part-read : reply_of_lookup read ≡ lookup_part answers i
  unfolding lookup_part
  part-read = ap reply_of_lookup (get_or-take n answers i (record { value = Ok 0; opened = 0 }) l)

  pub read-fits : All (λ (a : LookupAnswer). a.opened < 4294967296) answers → i < length (take n answers)
      → ((reply_of_lookup read).server < 4294967296) × ((reply_of_lookup read).opened < 4294967296) × ((reply_of_lookup read).invalidated < 4294967296)
  unfolding reply_of_lookup found_or
  read-fits few b =
      let d : LookupAnswer = record { value = Ok 0; opened = 0 } in
      let p = answer-plain read.value read.opened in
      (omega (arith, p.0), omega (arith, lookup_opened read, All-get_or (λ (a : LookupAnswer). a.opened < 4294967296) (take n answers) i d b (All-take (λ (a : LookupAnswer). a.opened < 4294967296) n answers few)), omega (arith, p.1))
