-- What document 02's item 6 promises of images, over all tables and all words.
use Rattle.std.specs.Prelude.{ℕ, ◌+◌, ◌*◌, ◌≤◌, ◌<◌, ◌≡◌, true, List, ◌++◌, length, take, drop}
use Rattle.limits.specs.Limits.{tenants}
use Rattle.table.specs.declared.Table.{Table}
use Rattle.table.specs.Parts.{weight_of, used_of, read_p, opened_of}
use Rattle.table.specs.Sound.{sound}
use Rattle.table.specs.Agree.{AgreeBelow}
use Rattle.replies.specs.Reply.{accepted}
use Rattle.image.specs.Layout.{image_of}
use Rattle.image.specs.Encoding.{encode_reply, encode_words}
use Rattle.image.specs.Decoding.{decode_reply, decode_table}

-- tables equal below the count: capacity, salt, count, each server below the count and each counter are the same
pub record EqualBelow (t u : Table) : Type 0 where
  pub below : AgreeBelow t u
  pub counters : (i : ℕ) → i < tenants → opened_of t i ≡ opened_of u i

-- a sound table has these words as its image
pub record Imaged (words : List ℕ) : Type 0 where
  pub table : Table
  pub is_sound : sound table ≡ true
  pub image : image_of table ≡ words

-- every server at or above the count has zeros
pub record ZerosAbove (t : Table) : Type 0 where
  pub weight : (k : ℕ) → t.count ≤ k → weight_of t k ≡ 0
  pub used : (k : ℕ) → t.count ≤ k → used_of t k ≡ 0
  pub read : (k : ℕ) → t.count ≤ k → read_p t k ≡ record { num = 0; den = 0 }

-- of tables: how many words an image has; and two have equal images exactly where they are equal below the count
pub record Images : Type 0 where
  pub long : (t : Table) → length (image_of t) ≡ 10 + 4 * t.count
  pub equal : (t u : Table) → EqualBelow t u → image_of t ≡ image_of u
  pub only : (t u : Table) → image_of t ≡ image_of u → EqualBelow t u

-- of words: the reader accepts them exactly when a sound table has them as its image
pub record Accepts (words : List ℕ) : Type 0 where
  pub images : Imaged words → decode_reply words ≡ accepted
  pub only : decode_reply words ≡ accepted → Imaged words

-- of words that it accepts: the table read is sound, has them as its image, so that it is equal below the count to every table that
-- has, and has zeros above the count
pub record Reads (words : List ℕ) : Type 0 where
  pub is_sound : sound (decode_table words) ≡ true
  pub image : image_of (decode_table words) ≡ words
  pub equal : (t : Table) → image_of t ≡ words → EqualBelow (decode_table words) t
  pub above : ZerosAbove (decode_table words)

-- writing what was read yields the words again, in front of any destination that has room for them
pub record WritesAgain (words destination : List ℕ) : Type 0 where
  pub reply : encode_reply (decode_table words) destination ≡ record { refusal = 0; words = length words }
  pub front : encode_words (decode_table words) destination ≡ words ++ drop (length words) destination

-- the words that encode wrote: as many as it answers, from the front
abbrev pub written : Table → List ℕ → List ℕ
written t destination = take (encode_reply t destination).words (encode_words t destination)

-- reading what was written yields the table below the count
pub record ReadsAgain (t : Table) (destination : List ℕ) : Type 0 where
  pub accepts : decode_reply (written t destination) ≡ accepted
  pub equal : EqualBelow (decode_table (written t destination)) t
