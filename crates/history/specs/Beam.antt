-- Mains failure (document 02, item 7): the word under the beam of the writer.
use Rattle.std.specs.Prelude.{ℕ, ◌%◌, List, [], ◌∷◌, set}
use Rattle.words.specs.Word.{tagged}
use Rattle.medium.specs.Burn.{Burn}

-- that word is as before, right, or junk
pub data Beam : Type 0 where
  dark : Beam
  right : Beam
  junk : ℕ → Beam

-- the content of a blank word, whose tag is 3
abbrev pub blank_content : ℕ
blank_content = 1073741823

-- any word of tag 3 that is not blank
unfoldable pub junk_word : ℕ → ℕ
junk_word r = tagged 3 (r % blank_content)

-- the first of the burns that are left stands under the beam; where none is left no word does
unfoldable pub under_beam : Beam → List Burn → List ℕ → List ℕ
under_beam beam [] m = m
under_beam dark (b ∷ left) m = m
under_beam right (b ∷ left) m = set m b.address b.word
under_beam (junk r) (b ∷ left) m = set m b.address (junk_word r)
