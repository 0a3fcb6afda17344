-- What a read may answer, and what it does to the bytes that are known of a reader.
use Rattle.std.specs.Prelude.{ℕ, ◌≤◌, ◌<◌, List, length, take, Option, None, Some}
use Rattle.std.specs.Io.KnownBytes.{Consumes, IsAtEnd}

-- it gives at most as many bytes as there is room for, or it fails
abbrev pub AtMost : ℕ → Option ℕ → Type 0
AtMost room (Some n) = n ≤ room
AtMost room None = Unit {0}

-- the bytes that a reader had are those that it gave and those that it has left, and where there was room for more it has none left
abbrev pub Gave : Option (List ℕ) → Option (List ℕ) → List ℕ → Option ℕ → Type 0
Gave old new buffer (Some n) = Consumes old new (take n buffer) × (n < length buffer → IsAtEnd new)
Gave old new buffer None = Unit {0}
