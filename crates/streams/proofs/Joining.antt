-- What one turn moves, put after what the earlier turns moved. Assumes nothing.
use Rattle.std.proofs.Common.{◌≡◌, ℕ, ◌+◌, ◌-◌, List, length, take, drop, take_all, length-drop, arith}
use Rattle.std.proofs.Math.Seq.{take-add}
use Rattle.std.specs.declared.option.Option.{Option}
use Rattle.std.specs.Io.KnownBytes.{Appends, Consumes}
use Rattle.std.proofs.KnownBytes.{Appends-trans, Consumes-trans}

module _ (old now new : Option (List ℕ)) (a n : ℕ) where
  -- a read into the buffer after what was read
  pub read-after : (before after : List ℕ) → take a after ≡ take a before → Consumes old now (take a before) → Consumes now new (take n (drop a after))
      → Consumes old new (take (a + n) after)
  read-after before after same p q = rw (take-add a n after, same) (Consumes-trans old now new _ _ p q)

  -- a write of the rest that was not yet written
  pub written-after : (xs : List ℕ) → Appends old now (take a xs) → Appends now new (take n (take (length xs - a) (drop a xs))) → Appends old new (take (a + n) xs)
  written-after xs p q =
      let whole : take (length xs - a) (drop a xs) ≡ drop a xs = take_all _ _ (omega (arith, length-drop a xs)) in
      rw (take-add a n xs) (Appends-trans old now new _ _ p (rw whole at q))
