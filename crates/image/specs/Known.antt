-- A known image: that of the table which document 01's worked example leaves, made by three servers of weights 2, 0 and 2, an entry
-- used on servers 0 and 2, and five servers opened for tenant 4. The words are worked out by hand from document 02's item 6.
use Rattle.std.specs.Prelude.{ℕ, ◌≡◌, true, List, [], ◌∷◌}
use Rattle.table.specs.declared.Table.{Table}
use Rattle.image.specs.Layout.{image_of}
use Rattle.image.specs.Decoding.{is_image}

abbrev pub example_table : Table
example_table = record {
  capacity = 4;
  salt = 0;
  count = 3;
  weights = 2 ∷ 0 ∷ 2 ∷ [];
  used = 1 ∷ 0 ∷ 1 ∷ [];
  numerators = 1 ∷ 0 ∷ 2 ∷ [];
  denominators = 1 ∷ 1 ∷ 3 ∷ [];
  counters = 0 ∷ 0 ∷ 0 ∷ 0 ∷ 5 ∷ 0 ∷ 0 ∷ 0 ∷ [];
}

abbrev pub example_words : List ℕ
example_words =
    4 ∷ 1073741824
    ∷ 1073741826 ∷ 2147483649 ∷ 1 ∷ 1073741825
    ∷ 1073741824 ∷ 2147483648 ∷ 0 ∷ 1073741825
    ∷ 1073741826 ∷ 2147483649 ∷ 2 ∷ 1073741827
    ∷ 2147483648 ∷ 2147483648 ∷ 2147483648 ∷ 2147483648 ∷ 2147483653 ∷ 2147483648 ∷ 2147483648 ∷ 2147483648 ∷ []

pub record KnownImage : Type 0 where
  pub words : image_of example_table ≡ example_words
  pub taken : is_image example_words ≡ true
