-- The words of the medium (document 01, "The discs"). Their tags are 0 for an id, 1 for a value and 2 for a mark, the paper's
-- void. No word of tag 3 but blank is ever written.
use Rattle.std.specs.Prelude.{ℕ}
use Rattle.words.specs.Word.{tagged}
use Rattle.medium.specs.declared.Mark.{Mark}
use Rattle.medium.specs.declared.Mark.TheVariants.{Replaced, Deleted}

-- the tag 0 adds nothing
abbrev pub id_word : ℕ → ℕ
id_word id = id

abbrev pub value_word : ℕ → ℕ
value_word v = tagged 1 v

abbrev pub mark_word : ℕ → ℕ
mark_word content = tagged 2 content

-- the contents of a mark
abbrev pub replaced : ℕ
replaced = 1

abbrev pub deleted : ℕ
deleted = 2

unfoldable pub mark_content : Mark → ℕ
mark_content Replaced = replaced
mark_content Deleted = deleted

abbrev pub blank : ℕ
blank = 4294967295
