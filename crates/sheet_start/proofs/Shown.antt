-- What a function shows of a line whose bytes and sheet are known.
-- Assumes nothing.
use Prim.Native.Nat.{ℕ, ◌+◌}
use mathlib.Core.Path.{◌≡◌}
use mathlib.Core.List.{List}
use lib.ListN.{length}
use lib.Seq.{sets}
use Rattle.sheet_start.specs.SheetStart.{Sheet, Done}

pub shown : (d : Done) {bytes : List ℕ} {s : Sheet} → d ≡ record { bytes = bytes; sheet = s } → (out out' : List ℕ) (at next : ℕ) (s' : Sheet)
    → next ≡ at + length bytes → out' ≡ sets out at bytes → s' ≡ s → (next ≡ at + length d.bytes) × ((out' ≡ sets out at d.bytes) × (s' ≡ d.sheet))
shown d e out out' at next s' n b f = rw e (n, (b, f))
