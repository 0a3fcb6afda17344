-- Comparing fractions in whole numbers. A fraction is a pair, never reduced.
use Rattle.std.specs.Prelude.{ℕ, ◌*◌, Bool, true, cond, ◌≡◌, ◌⊎◌, leb, ltb}
use Rattle.placement.specs.declared.Fraction.{Fraction}

-- n / d exceeds x / m: document 01's comparison with RAND, where m is 2^32
unfoldable pub exceeds : ℕ → Fraction → ℕ → Bool
exceeds m f x = ltb (x * f.den) (f.num * m)

-- p is at least q
unfoldable pub at_least : Fraction → Fraction → Bool
at_least p q = leb (q.num * p.den) (p.num * q.den)

-- q where it is strictly greater than p, and p otherwise
unfoldable pub raise : Fraction → Fraction → Fraction
raise p q = cond (at_least p q) p q

-- the same in words, since archive and ledger share it: r is the greater of p and q, and where they are equal it is the pair p
pub record Raised (p q r : Fraction) : Type 0 where
  pub one_of : (r ≡ p) ⊎ (r ≡ q)
  pub least : (at_least r p ≡ true) × (at_least r q ≡ true)
  pub kept : at_least p q ≡ true → r ≡ p
