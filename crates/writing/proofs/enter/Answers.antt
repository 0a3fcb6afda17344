-- `writing::enter` meets its contract: two words, both inside, each where the burns allow.
use Prim.Native.Nat.{◌+◌}
use mathlib.Core.Path.{◌≡◌, ◌∙◌}
use mathlib.Core.List.{[], ◌∷◌}
use lib.ListN.{take}
use Rattle.medium.specs.Word.{value_word}
use Rattle.medium.specs.Burn.{burn_all}
use Rattle.writing.proofs.NewEntry.{value-burned, value-left, id-burned, id_left}
use Rattle.writing.proofs.enter.Goals as goal
use Rattle.writing.proofs.enter.Goals.{else-burns-gt0, then-burns-gt0}

pub returns-then-burns-gt1 : goal.returns-then-burns-gt1
returns-then-burns-gt1 c =
    let value-here : c.if-burns-gt0.medium ≡ burn_all c.args.medium.now (take c.args.burns (record { address = c.args.at + 1; word = value_word c.args.value } ∷ [])) = (elim c.if-burns-gt0.branch [
      | then-burns-gt0 w ↦ (rw w.value_word.ensures at w.medium-is) ∙ value-burned c.args.medium.now c.args.at c.args.id c.args.value c.args.burns w.if-burns-gt0.true
      | else-burns-gt0 w ↦ w.medium-is ∙ value-left c.args.medium.now c.args.at c.args.id c.args.value c.args.burns w.if-burns-gt0.false
    ]) in
    id-burned c.args.medium.now c.args.at c.args.id c.args.value c.args.burns (value-here) c.if-burns-gt1.true

pub returns-else-burns-gt1 : goal.returns-else-burns-gt1
returns-else-burns-gt1 c =
    let value-here : c.if-burns-gt0.medium ≡ burn_all c.args.medium.now (take c.args.burns (record { address = c.args.at + 1; word = value_word c.args.value } ∷ [])) = (elim c.if-burns-gt0.branch [
      | then-burns-gt0 w ↦ (rw w.value_word.ensures at w.medium-is) ∙ value-burned c.args.medium.now c.args.at c.args.id c.args.value c.args.burns w.if-burns-gt0.true
      | else-burns-gt0 w ↦ w.medium-is ∙ value-left c.args.medium.now c.args.at c.args.id c.args.value c.args.burns w.if-burns-gt0.false
    ]) in
    id_left c.args.medium.now c.args.at c.args.id c.args.value c.args.burns (value-here) c.if-burns-gt1.false
