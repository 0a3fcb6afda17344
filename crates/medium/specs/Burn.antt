-- What a call writes to the medium: an ordered list of burns, worked out from the medium as lent.
use Rattle.std.specs.Prelude.{ℕ, zero, suc, Bool, cond, List, [], ◌∷◌, ◌++◌, map, set}
use Rattle.lists.specs.Below.{upward}
use Rattle.medium.specs.Word.{mark_word}
use Rattle.medium.specs.Entry.{mark_at, live}

-- one word at one address
pub record Burn : Type 0 where
  pub address : ℕ
  pub word : ℕ

-- the medium after a list of burns, first to last
unfoldable pub burn_all : List ℕ → List Burn → List ℕ
burn_all m [] = m
burn_all m (b ∷ bs) = burn_all (set m b.address b.word) bs

-- the addresses of the marks of an id's live entries on server k, the lowest entry first
unfoldable pub marks_on : ℕ → ℕ → List ℕ → ℕ → ℕ → List ℕ
marks_on capacity used m id k = map (mark_at capacity k) (upward (live capacity used m id k) used)

-- the same on those of the servers below n that pass, the lowest server first (document 02, item 7)
unfoldable pub marks_over : ℕ → (ℕ → ℕ) → List ℕ → ℕ → (ℕ → Bool) → ℕ → List ℕ
marks_over capacity used m id p zero = []
marks_over capacity used m id p (suc k) = marks_over capacity used m id p k ++ cond (p k) (marks_on capacity (used k) m id k) []

-- the burns that invalidate, the paper's voids: a mark of this content at each of these addresses
unfoldable pub invalidations : ℕ → List ℕ → List Burn
invalidations content [] = []
invalidations content (a ∷ rest) = record { address = a; word = mark_word content } ∷ invalidations content rest
