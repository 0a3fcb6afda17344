-- A word is its tag and its content, and nothing else.
-- Assumes nothing.
use Prim.Native.Nat.{ℕ, ◌<◌}
use mathlib.Core.Path.{◌≡◌}
use native.Mathlib.Omega.{arith}
use Rattle.limits.specs.Limits.{content_range}
use Rattle.words.specs.Word.{tag_of, content_of, tagged}

pub tag_back : (tag content : ℕ) → content < content_range → tag_of (tagged tag content) ≡ tag
tag_back tag content l = omega arith

pub content-back : (tag content : ℕ) → content < content_range → content_of (tagged tag content) ≡ content
content-back tag content l = omega arith

pub word_back : (w : ℕ) → tagged (tag_of w) (content_of w) ≡ w
word_back w = omega arith

-- words of one tag have the same content only where they are the same
pub content-only : (tag a b : ℕ) → tagged tag a ≡ tagged tag b → a ≡ b
content-only tag a b e = omega arith
