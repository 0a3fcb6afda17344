-- Decode reads a table from words that are all of an image: when they are one, its reply, and the table.
use Rattle.std.specs.Prelude.{ℕ, ◌+◌, ◌-◌, ◌/◌, Bool, not, ◌&&◌, List, [], ◌∷◌, length, replicate, eqb}
use Rattle.limits.specs.Limits.{tenants}
use Rattle.lists.specs.Below.{nth, all_below, set_below}
use Rattle.words.specs.Word.{tag_of, content_of}
use Rattle.table.specs.declared.Table.{Table}
use Rattle.table.specs.Parts.{table_by, zeros, empty}
use Rattle.table.specs.Sound.{sound}
use Rattle.replies.specs.declared.Reply.{Reply}
use Rattle.replies.specs.Refusal.{Row, ◌when◌, settle}
use Rattle.replies.specs.Reply.{accepted, reply_by}
use Rattle.image.specs.Layout.{capacity_place, salt_place, part_words, weight_place, used_place, numerator_place, denominator_place, part_at, image_length}

-- tag and content of the word at a position
abbrev pub tag_at : List ℕ → ℕ → ℕ
tag_at words i = tag_of (nth words i)

abbrev pub content_at : List ℕ → ℕ → ℕ
content_at words i = content_of (nth words i)

-- how many servers so many words have room for
abbrev pub count_in : ℕ → ℕ
count_in length = (length - image_length 0) / part_words

-- what stands at a place of each of the first n servers, and 0 for every other
abbrev pub column_in : List ℕ → ℕ → ℕ → List ℕ
column_in words place n = set_below (λ k. content_at words (part_at k + place)) n zeros

-- the counters, whose words begin at a position
abbrev pub counters_in : List ℕ → ℕ → List ℕ
counters_in words from = set_below (λ i. content_at words (from + i)) tenants (replicate tenants 0)

-- the table of the words' contents; positions at or above the count have zeros
unfoldable pub table_in : List ℕ → Table
table_in words =
    let n = count_in (length words) in
    table_by
    (record { capacity = content_at words capacity_place; salt = content_at words salt_place; count = n })
    (column_in words weight_place n)
    (column_in words used_place n)
    (column_in words numerator_place n)
    (column_in words denominator_place n)
    (counters_in words (part_at n))

-- each word has the tag of its place
unfoldable pub head_tagged : List ℕ → Bool
head_tagged words = eqb (tag_at words capacity_place) 0 && eqb (tag_at words salt_place) 1

unfoldable pub server_tagged : List ℕ → ℕ → Bool
server_tagged words k =
    eqb (tag_at words (part_at k + weight_place)) 1
    && (eqb (tag_at words (part_at k + used_place)) 2
    && (eqb (tag_at words (part_at k + numerator_place)) 0
    && eqb (tag_at words (part_at k + denominator_place)) 1))

unfoldable pub counter_tagged : List ℕ → ℕ → ℕ → Bool
counter_tagged words from i = eqb (tag_at words (from + i)) 2

unfoldable pub each_tagged : List ℕ → ℕ → Bool
each_tagged words n =
    head_tagged words
    && (all_below (server_tagged words) n
    && all_below (counter_tagged words (part_at n)) tenants)

-- they are as many words as an image has, each has its tag, and the table of their contents is sound; `Promises` says that they
-- are then, and only then, the image of a sound table
unfoldable pub is_image : List ℕ → Bool
is_image words =
    let n = count_in (length words) in
    eqb (length words) (image_length n)
    && (each_tagged words n
    && sound (table_in words))

unfoldable pub decode_rows : List ℕ → List Row
decode_rows words = 12 when not (is_image words) ∷ []

unfoldable pub decode_reply : List ℕ → Reply
decode_reply words = reply_by (decode_rows words) accepted

-- the table read, or one of all zeros
unfoldable pub decode_table : List ℕ → Table
decode_table words = settle (decode_rows words) (table_in words) (empty 0 0)
