-- Laws of words that are read: the table of their contents is that of an image, and its image is the words.
-- Assumes nothing.
use Prim.Native.Nat.{ℕ, zero, suc, ◌+◌, ◌-◌, ◌/◌, ◌%◌, ◌≤◌, ◌<◌}
use mathlib.Core.Path.{◌≡◌, refl, sym, ap, ap₂, ◌∙◌}
use mathlib.Core.Bool.{true, false}
use mathlib.Core.Logic.{◌≢◌}
use mathlib.Core.List.{List}
use native.Mathlib.Omega.{arith}
use lib.ListN.{length, replicate, length-replicate}
use lib.Seq.{ext_get_or}
use lib.Dec.{eqb, ltb}
use borrow.Author.Tests.{eqb-true, eq-eqb, ltb-true, ltb-false}
use Rattle.limits.specs.Limits.{max_servers, content_range, tenants}
use Rattle.lists.specs.Below.{nth}
use Rattle.lists.proofs.Tests.{by_bool, true-not-false, and_l, and_r, and_i}
use Rattle.lists.proofs.Below.{all_below-in, all_below-out, set_below-at, set_below-above, length-set_below, nth-zeros}
use Rattle.words.specs.Word.{tag_of, content_of, tagged}
use Rattle.words.proofs.Words.{tag_back, content-back, word_back}
use Rattle.counters.specs.Counter.{in_bounds}
use Rattle.counters.proofs.Counters.{bounds-at, bounds-cong}
use Rattle.table.specs.declared.Table.{Table}
use Rattle.table.specs.Parts.{weight_of, used_of, read_p, opened_of, zeros, empty}
use Rattle.table.specs.Sound.{sound}
use Rattle.table.proofs.Soundness.{Arrays, sound-facts}
use Rattle.table.proofs.Agreement.{agree-sound}
use Rattle.replies.specs.Refusal.{first_of, settle}
use Rattle.replies.specs.Reply.{refused, accepted, reply_by}
use Rattle.image.specs.Layout.{head_words, part_words, part_at, image_length, server_image, image_of}
use Rattle.image.specs.Decoding.{tag_at, content_at, count_in, column_in, counters_in, table_in, head_tagged, server_tagged, counter_tagged, each_tagged, is_image, decode_rows, decode_reply, decode_table}
use Rattle.image.specs.Promises.{EqualBelow, ZerosAbove}
use Rattle.image.proofs.Images.{length-image, capacity-at, salt-at, server-at, counter_at}

-- what is read of a server below the count, and of one at or above it
column-at : (words : List ℕ) (place n k : ℕ) → n ≤ max_servers → k < n → nth (column_in words place n) k ≡ content_at words (part_at k + place)
column-at words place n k few l = set_below-at (λ k. content_at words (part_at k + place)) n zeros (omega (arith, length-replicate {A = ℕ} 256 0)) k l

column-above : (words : List ℕ) (place n k : ℕ) → n ≤ k → nth (column_in words place n) k ≡ 0
column-above words place n k l = set_below-above (λ k. content_at words (part_at k + place)) n zeros k l ∙ nth-zeros 256 k

counter-in : (words : List ℕ) (from i : ℕ) → i < tenants → nth (counters_in words from) i ≡ content_at words (from + i)
counter-in words from i l = set_below-at (λ i. content_at words (from + i)) tenants (replicate tenants 0) (omega (arith, length-replicate {A = ℕ} 8 0)) i l

pub zeros-above : (words : List ℕ) → ZerosAbove (table_in words)
unfolding table_in
zeros-above words =
    let n = count_in (length words) in
    record {
      weight = λ k l. column-above words 0 n k l;
      used = λ k l. column-above words 1 n k l;
      read = λ k l. ap₂ (λ (a b : ℕ). record { num = a; den = b }) (column-above words 2 n k l) (column-above words 3 n k l);
    }

-- the table read has whole arrays
length-column_in : (words : List ℕ) (place n : ℕ) → length (column_in words place n) ≡ max_servers
length-column_in words place n = length-set_below (λ k. content_at words (part_at k + place)) n zeros ∙ length-replicate {A = ℕ} 256 0

pub read-arrays : (words : List ℕ) → Arrays (table_in words)
unfolding table_in
read-arrays words =
    let n = count_in (length words) in
    record {
      weights = length-column_in words 0 n;
      used = length-column_in words 1 n;
      numerators = length-column_in words 2 n;
      denominators = length-column_in words 3 n;
      counters = length-set_below (λ i. content_at words (part_at n + i)) tenants (replicate tenants 0) ∙ length-replicate {A = ℕ} 8 0;
    }

-- a counter within its bound fits into a word
pub counter-small : (counters : List ℕ) → in_bounds counters ≡ true → (i : ℕ) → i < tenants → nth counters i < content_range
counter-small counters b i l = let h = bounds-at counters b i l in omega arith

-- the image of a sound table, read
module _ (t : Table) (ok : sound t ≡ true) where
  count-back : count_in (length (image_of t)) ≡ t.count
  count-back = omega (arith, length-image t)

  -- the content of a word of a server, and its tag
  part-content : (k i tag number : ℕ) → k < t.count → i < part_words → nth (server_image t k) i ≡ tagged tag number → number < content_range → content_at (image_of t) (part_at k + i) ≡ number
  part-content k i tag number l m e small = ap content_of (server-at t k i l m ∙ e) ∙ content-back tag number small

  part-tag : (k i tag number : ℕ) → k < t.count → i < part_words → nth (server_image t k) i ≡ tagged tag number → number < content_range → eqb (tag_at (image_of t) (part_at k + i)) tag ≡ true
  part-tag k i tag number l m e small = eq-eqb _ _ (ap tag_of (server-at t k i l m ∙ e) ∙ tag_back tag number small)

  -- the table read is the table
  pub read_back : EqualBelow (table_in (image_of t)) t
  unfolding table_in
  read_back =
      let s = sound-facts t ok in
      let words = image_of t in
      let n = count_in (length words) in
      let few : n ≤ max_servers = omega (arith, count-back, s.few) in
      record {
        below = record {
          capacity = ap content_of (capacity-at t) ∙ content-back 0 t.capacity (omega (arith, s.high));
          salt = ap content_of (salt-at t) ∙ content-back 1 t.salt s.salted;
          count = count-back;
          weight = λ k l.
              let m : k < t.count = omega (arith, count-back) in
              column-at words 0 n k few l ∙ part-content k 0 1 (weight_of t k) m (omega arith) refl (omega (arith, s.high, (s.server k m).light));
          used = λ k l.
              let m : k < t.count = omega (arith, count-back) in
              column-at words 1 n k few l ∙ part-content k 1 2 (used_of t k) m (omega arith) refl (omega (arith, s.high, (s.server k m).fits));
          read = λ k l.
              let m : k < t.count = omega (arith, count-back) in
              let f = s.server k m in
              ap₂ (λ (a b : ℕ). record { num = a; den = b })
              (column-at words 2 n k few l ∙ part-content k 2 0 (read_p t k).num m (omega arith) refl (omega (arith, f.small, f.proper)))
              (column-at words 3 n k few l ∙ part-content k 3 1 (read_p t k).den m (omega arith) refl (omega (arith, f.small)));
        };
        counters = λ i l.
            counter-in words (part_at n) i l
            ∙ rw count-back (ap content_of (counter_at t i l) ∙ content-back 2 (opened_of t i) (counter-small t.counters s.bounds i l));
      }

  -- each of its words has its tag
  tags-back : (n : ℕ) → n ≡ t.count → each_tagged (image_of t) n ≡ true
  unfolding each_tagged head_tagged server_tagged counter_tagged
  tags-back n e =
      let s = sound-facts t ok in
      and_i _ _
      (and_i _ _
      (eq-eqb _ _ (ap tag_of (capacity-at t) ∙ tag_back 0 t.capacity (omega (arith, s.high))))
      (eq-eqb _ _ (ap tag_of (salt-at t) ∙ tag_back 1 t.salt s.salted)))
      (and_i _ _
      (all_below-in (server_tagged (image_of t)) n (λ k l.
      let m : k < t.count = omega arith in
      let f = s.server k m in
      and_i _ _ (part-tag k 0 1 (weight_of t k) m (omega arith) refl (omega (arith, s.high, f.light)))
      (and_i _ _ (part-tag k 1 2 (used_of t k) m (omega arith) refl (omega (arith, s.high, f.fits)))
      (and_i _ _ (part-tag k 2 0 (read_p t k).num m (omega arith) refl (omega (arith, f.small, f.proper)))
      (part-tag k 3 1 (read_p t k).den m (omega arith) refl (omega (arith, f.small)))))))
      (all_below-in (counter_tagged (image_of t) (part_at n)) tenants (λ i l.
      eq-eqb (tag_at (image_of t) (part_at n + i)) 2 (rw e (ap tag_of (counter_at t i l) ∙ tag_back 2 (opened_of t i) (counter-small t.counters s.bounds i l))))))

  -- so the reader takes it
  pub image-taken : is_image (image_of t) ≡ true
  unfolding is_image
  image-taken =
      let g = read_back in
      let bounds : in_bounds (table_in (image_of t)).counters ≡ in_bounds t.counters = bounds-cong (table_in (image_of t)).counters t.counters g.counters in
      and_i _ _ (eq-eqb _ _ (length-image t ∙ ap image_length (sym count-back)))
      (and_i _ _ (tags-back _ count-back)
      (agree-sound (table_in (image_of t)) t g.below bounds ∙ ok))

-- a word with its tag is that of its tag and its content
tagged-word : (words : List ℕ) (i tag : ℕ) → eqb (tag_at words i) tag ≡ true → tagged tag (content_at words i) ≡ nth words i
tagged-word words i tag e = ap (λ (x : ℕ). tagged x (content_at words i)) (sym (eqb-true (tag_at words i) tag e)) ∙ word_back (nth words i)

-- words that are taken are the image of the table read
module _ (words : List ℕ) (taken : is_image words ≡ true) where
  taken-long : length words ≡ image_length (table_in words).count
  unfolding is_image table_in
  taken-long = eqb-true (length words) (image_length (count_in (length words))) (search and_l)

  taken-tags : each_tagged words (table_in words).count ≡ true
  unfolding is_image table_in
  taken-tags = search (and_l, and_r)

  pub taken-sound : sound (table_in words) ≡ true
  unfolding is_image
  taken-sound = search (and_l, and_r)

  taken-few : (table_in words).count ≤ max_servers
  taken-few = (sound-facts (table_in words) taken-sound).few

  -- which tags they have
  head-tags : head_tagged words ≡ true
  unfolding each_tagged
  head-tags = let h = taken-tags in search and_l

  server-tags : (k : ℕ) → k < (table_in words).count → server_tagged words k ≡ true
  unfolding each_tagged
  server-tags =
      let h = taken-tags in
      all_below-out (server_tagged words) (table_in words).count (search (and_l, and_r))

  counter-tags : (i : ℕ) → i < tenants → counter_tagged words (part_at (table_in words).count) i ≡ true
  unfolding each_tagged
  counter-tags =
      let h = taken-tags in
      all_below-out (counter_tagged words (part_at (table_in words).count)) tenants (search (and_l, and_r))

  -- so each word of the image is the word read
  head-back : (i : ℕ) → i < head_words → nth (image_of (table_in words)) i ≡ nth words i
  unfolding head_tagged table_in
  head-back zero l = capacity-at (table_in words) ∙ tagged-word words 0 0 (let h = head-tags in search and_l)
  head-back (suc zero) l = salt-at (table_in words) ∙ tagged-word words 1 1 (let h = head-tags in search and_r)
  head-back (suc (suc i)) l = absurd (omega arith)

  -- a word of a server, by the column that it was read into
  column-back : (k place tag : ℕ) → k < (table_in words).count → eqb (tag_at words (part_at k + place)) tag ≡ true → tagged tag (nth (column_in words place (table_in words).count) k) ≡ nth words (part_at k + place)
  column-back k place tag l e = ap (tagged tag) (column-at words place (table_in words).count k taken-few l) ∙ tagged-word words (part_at k + place) tag e

  part-back : (k i : ℕ) → k < (table_in words).count → i < part_words → nth (server_image (table_in words) k) i ≡ nth words (part_at k + i)
  unfolding server_tagged table_in
  part-back k zero l m = let h = server-tags k l in column-back k 0 1 l (search and_l)
  part-back k (suc zero) l m = let h = server-tags k l in column-back k 1 2 l (search (and_l, and_r))
  part-back k (suc (suc zero)) l m = let h = server-tags k l in column-back k 2 0 l (search (and_l, and_r))
  part-back k (suc (suc (suc zero))) l m = let h = server-tags k l in column-back k 3 1 l (search (and_l, and_r))
  part-back k (suc (suc (suc (suc i)))) l m = absurd (omega arith)

  last-back : (i : ℕ) → i < tenants → tagged 2 (opened_of (table_in words) i) ≡ nth words (part_at (table_in words).count + i)
  unfolding counter_tagged table_in
  last-back i l =
      let from = part_at (table_in words).count in
      ap (tagged 2) (counter-in words from i l) ∙ tagged-word words (from + i) 2 (counter-tags i l)

  word_same : (i : ℕ) → i < length (image_of (table_in words)) → nth (image_of (table_in words)) i ≡ nth words i
  word_same i l =
      let t = table_in words in
      let k = (i - head_words) / part_words in
      let j = (i - head_words) % part_words in
      by_bool (ltb i head_words)
      (λ e. head-back i (ltb-true i head_words e))
      (λ e. by_bool (ltb i (part_at t.count))
      (λ d.
      let low : head_words ≤ i = ltb-false i head_words e in
      let high : i < part_at t.count = ltb-true i (part_at t.count) d in
      let here : i ≡ part_at k + j = omega arith in
      let there : k < t.count = omega arith in
      let inside : j < part_words = omega arith in
      rw here (server-at t k j there inside ∙ part-back k j there inside))
      (λ d.
      let high : part_at t.count ≤ i = ltb-false i (part_at t.count) d in
      let here : i ≡ part_at t.count + (i - part_at t.count) = omega arith in
      let inside : i - part_at t.count < tenants = omega (arith, length-image t) in
      rw here (counter_at t (i - part_at t.count) inside ∙ last-back (i - part_at t.count) inside)))

  pub image-back : image_of (table_in words) ≡ words
  image-back = ext_get_or 0 (image_of (table_in words)) words (length-image (table_in words) ∙ sym taken-long) word_same

-- words that are not taken: what shows it
untaken : (words : List ℕ) → (is_image words ≡ true → ⊥) → is_image words ≡ false
untaken words h = by_bool (is_image words) (λ e. absurd (h e)) (λ e. e)

pub too_many : (words : List ℕ) → max_servers < count_in (length words) → is_image words ≡ false
unfolding table_in
too_many words l = untaken words (λ e. let few = taken-few words e in omega arith)

pub not_long : (words : List ℕ) → length words ≢ image_length (count_in (length words)) → is_image words ≡ false
unfolding table_in
not_long words n = untaken words (λ e. n (taken-long words e))

pub not_tagged : (words : List ℕ) → each_tagged words (count_in (length words)) ≡ false → is_image words ≡ false
unfolding table_in
not_tagged words n = untaken words (λ e. true-not-false (taken-tags words e) n)

pub not_sound : (words : List ℕ) → sound (table_in words) ≡ false → is_image words ≡ false
not_sound words n = untaken words (λ e. true-not-false (taken-sound words e) n)

-- and words that are
pub all_taken : (words : List ℕ) → length words ≡ image_length (count_in (length words)) → each_tagged words (count_in (length words)) ≡ true → sound (table_in words) ≡ true → is_image words ≡ true
unfolding is_image
all_taken words long tags ok = and_i _ _ (eq-eqb _ _ long) (and_i _ _ tags ok)

-- what decode answers of both
pub decode-refused : (words : List ℕ) → is_image words ≡ false → (refused 12 0 ≡ decode_reply words) × (empty 0 0 ≡ decode_table words)
unfolding decode_reply decode_table decode_rows reply_by settle first_of
decode-refused words e = (rw e, rw e)

pub decode-done : (words : List ℕ) → is_image words ≡ true → (accepted ≡ decode_reply words) × (table_in words ≡ decode_table words)
unfolding decode_reply decode_table decode_rows reply_by settle first_of
decode-done words e = (rw e, rw e)
