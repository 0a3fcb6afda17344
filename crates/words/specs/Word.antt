-- A 32-bit word, of the medium and of a table's image alike: its top two bits are its tag, which the documents call its kind, and
-- its low 30 bits its content.
use Rattle.std.specs.Prelude.{ℕ, ◌+◌, ◌*◌, ◌/◌, ◌%◌}
use Rattle.limits.specs.Limits.{content_range}

abbrev pub tag_of : ℕ → ℕ
tag_of w = w / content_range

abbrev pub content_of : ℕ → ℕ
content_of w = w % content_range

-- the word of a tag and a content
abbrev pub tagged : ℕ → ℕ → ℕ
tagged tag content = tag * content_range + content
