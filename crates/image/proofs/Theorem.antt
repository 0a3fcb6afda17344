-- The promises of images, each for all tables and all words.
-- Assumes nothing.
use Prim.Native.Nat.{ℕ, ◌≤◌}
use mathlib.Core.Path.{◌≡◌, refl, sym, ap, subst, ◌∙◌}
use mathlib.Core.Bool.{true}
use mathlib.Core.List.{List}
use native.Mathlib.Omega.{arith}
use lib.ListN.{length, drop}
use lib.Seq.{take_at}
use lib.Dec.{ltb}
use borrow.Author.Tests.{ltb-true, ltb-false}
use Rattle.limits.specs.Limits.{max_servers}
use Rattle.lists.proofs.Tests.{by_bool}
use Rattle.table.specs.declared.Table.{Table}
use Rattle.table.specs.Sound.{sound}
use Rattle.table.proofs.Soundness.{Arrays, empty-arrays, sound-facts}
use Rattle.replies.specs.declared.Reply.{Reply}
use Rattle.replies.specs.Reply.{accepted}
use Rattle.replies.specs.Refusal.{rising}
use Rattle.std.specs.Prelude.{Ok}
use Rattle.image.specs.Layout.{image_length, image_of}
use Rattle.image.specs.Encoding.{EncodeReply, encode_rows, reply_of_encode, encode_reply}
use Rattle.image.specs.Decoding.{table_in, is_image, decode_reply, decode_table}
use Rattle.image.specs.Promises.{ZerosAbove, Images, Accepts, Reads, WritesAgain, written, ReadsAgain}
use Rattle.image.proofs.Images.{length-image, equal-image, image-equal}
use Rattle.image.proofs.Reading.{image-taken, taken-sound, image-back, zeros-above, read-arrays, decode-refused, decode-done}
use Rattle.image.proofs.Writing.{rows-unsound, rows_short, encode-number, encode-settled}

pub images : Images
images = record { long = λ t. length-image t ∙ omega arith; equal = equal-image; only = image-equal }

-- the reader accepts what is taken, and that alone
accepts-taken : (words : List ℕ) → is_image words ≡ true → decode_reply words ≡ accepted
accepts-taken words e = sym (decode-done words e).0

taken-accepted : (words : List ℕ) → decode_reply words ≡ accepted → is_image words ≡ true
taken-accepted words a = by_bool (is_image words) (λ e. e)
    (λ e. let n : ◌≡◌ {A = ℕ} 12 0 = ap (λ (r : Reply). r.refusal) ((decode-refused words e).0 ∙ a) in absurd (omega arith))

pub accepts : (words : List ℕ) → Accepts words
accepts words = record {
  images = λ i. accepts-taken words (subst (λ (w : List ℕ). is_image w ≡ true) i.image (image-taken i.table i.is_sound));
  only = λ a. let e = taken-accepted words a in record { table = table_in words; is_sound = taken-sound words e; image = image-back words e };
}

pub reads : (words : List ℕ) → decode_reply words ≡ accepted → Reads words
reads words a =
    let e = taken-accepted words a in
    let table = (decode-done words e).1 in
    let image : image_of (decode_table words) ≡ words = ap image_of (sym table) ∙ image-back words e in
    record {
      is_sound = ap sound (sym table) ∙ taken-sound words e;
      image = image;
      equal = λ t i. image-equal (decode_table words) t (image ∙ sym i);
      above = subst ZerosAbove table (zeros-above words);
    }

pub writes_again : (words destination : List ℕ) → decode_reply words ≡ accepted → length words ≤ length destination → WritesAgain words destination
writes_again words destination a l =
    let r = reads words a in
    let t = decode_table words in
    let n : image_length t.count ≡ length words = sym (length-image t) ∙ ap length r.image in
    let done = encode-settled t destination r.is_sound (omega arith) in
    record {
      reply = done.0 ∙ ap (λ (n : ℕ). record { refusal = 0; words = n }) n;
      front = done.1 ∙ rw (n, r.image);
    }

-- encode accepts a sound table whose image the destination has room for, and no other
room : (t : Table) (destination : List ℕ) → (encode_reply t destination).refusal ≡ 0 → (sound t ≡ true) × (image_length t.count ≤ length destination)
room t destination z =
    by_bool (sound t)
    (λ ok. by_bool (ltb (length destination) (image_length t.count))
    (λ s. let n = encode-number t destination ∙ sym (rows_short t destination ok (ltb-true _ _ s)) in absurd (omega arith))
    (λ s. (ok, ltb-false _ _ s)))
    (λ bad. let n = encode-number t destination ∙ sym (rows-unsound t destination bad) in absurd (omega arith))

pub reads-again : (t : Table) (destination : List ℕ) → (encode_reply t destination).refusal ≡ 0 → ReadsAgain t destination
reads-again t destination z =
    let r = room t destination z in
    let done = encode-settled t destination r.0 r.1 in
    let image : written t destination ≡ image_of t = rw (done.0, done.1) (take_at (image_of t) (drop (image_length t.count) destination) (image_length t.count) (length-image t)) in
    record {
      accepts = rw image ((accepts (image_of t)).images (record { table = t; is_sound = r.0; image = refl }));
      equal = rw image ((reads (image_of t) ((accepts (image_of t)).images (record { table = t; is_sound = r.0; image = refl }))).equal t refl);
    }

-- the numbers of encode's rows rise, so that the first that applies is the lowest
pub encode-rises : (t : Table) (destination : List ℕ) → rising 0 (encode_rows t destination) ≡ true
unfolding encode_rows rising
encode-rises t destination = refl

-- numbers that fit into a word: how many words an image has, and the count of a table that was read
pub encoded_few : (t : Table) (destination : List ℕ) (n : ℕ) → reply_of_encode (Ok n) ≡ encode_reply t destination → n ≤ image_length max_servers
unfolding reply_of_encode
encoded_few t destination n e =
    let r = room t destination (sym (ap (λ (r : EncodeReply). r.refusal) e)) in
    let long : n ≡ image_length t.count = ap (λ (r : EncodeReply). r.words) (e ∙ (encode-settled t destination r.0 r.1).0) in
    omega (arith, (sound-facts t r.0).few)

pub decoded_few : (words : List ℕ) → (decode_table words).count ≤ max_servers
decoded_few words = by_bool (is_image words)
    (λ e. rw (← (decode-done words e).1) (sound-facts (table_in words) (taken-sound words e)).few)
    (λ e. rw (← (decode-refused words e).1) (omega arith))

-- the table that is handed out has whole arrays
pub decoded-arrays : (words : List ℕ) → Arrays (decode_table words)
decoded-arrays words = by_bool (is_image words)
    (λ e. subst Arrays (decode-done words e).1 (read-arrays words))
    (λ e. subst Arrays (decode-refused words e).1 (empty-arrays 0 0))
