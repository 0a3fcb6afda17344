-- The image of a table (document 02, item 6: the rack sheet): the words by which a table is carried from one place to another.
--
--   word                 tag   content
--   0                    0     capacity, the paper's E
--   1                    1     salt, its key
--   2 + 4 k              1     weight of server k
--   3 + 4 k              2     entries used of server k
--   4 + 4 k              0     numerator of ReadP of server k
--   5 + 4 k              1     denominator of ReadP of server k
--   2 + 4 count + i      2     counter of tenant i
--
-- Only the servers below the count have words, so that it has 10 + 4 * count of them.
use Rattle.std.specs.Prelude.{ℕ, ◌+◌, ◌*◌, List, [], ◌∷◌, ◌++◌}
use Rattle.limits.specs.Limits.{tenants}
use Rattle.lists.specs.Below.{join_below}
use Rattle.words.specs.Word.{tagged}
use Rattle.placement.specs.declared.Fraction.{Fraction}
use Rattle.table.specs.declared.Table.{Table}
use Rattle.table.specs.Parts.{weight_of, used_of, read_p, opened_of}

-- where capacity and salt stand, and how many words are before the servers'
abbrev pub capacity_place : ℕ
capacity_place = 0

abbrev pub salt_place : ℕ
salt_place = 1

abbrev pub head_words : ℕ
head_words = 2

-- how many words a server has, and how far each stands from its first
abbrev pub part_words : ℕ
part_words = 4

abbrev pub weight_place : ℕ
weight_place = 0

abbrev pub used_place : ℕ
used_place = 1

abbrev pub numerator_place : ℕ
numerator_place = 2

abbrev pub denominator_place : ℕ
denominator_place = 3

-- the words of server k begin here, and behind the last server those of the counters
abbrev pub part_at : ℕ → ℕ
part_at k = head_words + part_words * k

-- how many words the image of a table of so many servers has: 10 + 4 * count
abbrev pub image_length : ℕ → ℕ
image_length count = part_at count + tenants

-- the words of a server, by its numbers
abbrev pub server_part : ℕ → ℕ → Fraction → List ℕ
server_part weight used read = tagged 1 weight ∷ tagged 2 used ∷ tagged 0 read.num ∷ tagged 1 read.den ∷ []

-- the word of a counter
abbrev pub counter_word : ℕ → List ℕ
counter_word counter = tagged 2 counter ∷ []

-- the words of server k of a table, and of a tenant's counter
abbrev pub server_image : Table → ℕ → List ℕ
server_image t k = server_part (weight_of t k) (used_of t k) (read_p t k)

abbrev pub counter_image : Table → ℕ → List ℕ
counter_image t tenant = counter_word (opened_of t tenant)

unfoldable pub image_of : Table → List ℕ
image_of t =
    (tagged 0 t.capacity ∷ tagged 1 t.salt ∷ [])
    ++ (join_below (server_image t) t.count
    ++ join_below (counter_image t) tenants)
