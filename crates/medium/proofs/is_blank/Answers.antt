-- `medium::is_blank` meets its contract: one word that is not blank, and one more that is.
use Prim.Native.Nat.{◌+◌, ◌-◌}
use mathlib.Core.Path.{◌≡◌, refl, sym, ◌∙◌}
use native.Mathlib.Omega.{arith}
use Rattle.lists.specs.Below.{all_below}
use Rattle.medium.specs.Entry.{blank_run}
use Rattle.medium.proofs.Entries.{run-word, blank-not, blank_more}
use Rattle.medium.proofs.is_blank.Goals as goal

pub loop-word-init : goal.loop-word-init
unfolding blank_run all_below
loop-word-init c = refl

pub returns-then-word : goal.returns-then-word
returns-then-word c =
    let a = c.args in
    let word = run-word a.medium.now a.from (a.from + a.n - a.from) c.loop-word.word-index (omega arith) in
    sym (blank-not a.medium.now a.from a.n c.loop-word.word-index (omega arith) (λ e. c.if-word.true (word ∙ e)))

pub loop-word-preserved : goal.loop-word-preserved
loop-word-preserved c =
    let a = c.args in
    let word = run-word a.medium.now a.from (a.from + a.n - a.from) c.loop-word.word-index (omega arith) in
    blank_more a.medium.now a.from c.loop-word.word-index c.loop-word.invariant (sym word ∙ c.if-word.false)

pub returns : goal.returns
returns c =
    let a = c.args in
    let whole : c.loop-word.word-index ≡ a.n = omega arith in
    sym (rw whole at c.loop-word.invariant)
