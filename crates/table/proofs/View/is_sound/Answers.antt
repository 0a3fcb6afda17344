-- `table::View::is_sound` meets its contract: a server is as sound as its ReadP, once its weight and its entries are tested.
use mathlib.Core.Path.{sym, ◌∙◌}
use borrow.Author.Rules.{rules}
use Rattle.lists.proofs.Below.{total-more, all_below-more}
use Rattle.table.specs.Parts.{table_of}
use Rattle.table.specs.Sound.{server_sound}
use Rattle.table.proofs.Soundness.{server-unsound}
use Rattle.table.proofs.Testing.{heavy_refused, overfull_refused, server_tested}
use Rattle.table.proofs.View.is_sound.Goals.{then-weight-capacity-via-then-weight-capacity, then-weight-capacity-via-else-weight-capacity+then-self-i}
use Rattle.table.proofs.View.is_sound.Goals as goal

pub returns-then-weight-capacity : goal.returns-then-weight-capacity
returns-then-weight-capacity c =
    let t = table_of c.args.self.now in
    elim c.then-weight-capacity.branch [
      | then-weight-capacity-via-then-weight-capacity w ↦ heavy_refused t c.loop-i.i c.loop-i-test.true w.if-weight-capacity.true
      | then-weight-capacity-via-else-weight-capacity+then-self-i w ↦ overfull_refused t c.loop-i.i c.loop-i-test.true w.if-self-i.true
    ]

pub returns-then-not-read_sound : goal.returns-then-not-read_sound
returns-then-not-read_sound c =
    let t = table_of c.args.self.now in
    let tested = server_tested t c.loop-i.i c.loop-i.sum (sym c.head_sound.ensures ∙ c.if-not-head_sound.false) c.loop-i-test.true c.if-weight-capacity.false c.if-self-i.false c.loop-i.invariant.sum in
    sym (server-unsound t c.loop-i.i c.loop-i-test.true (tested ∙ sym (rw c.read_p.ensures at c.read_sound.ensures) ∙ c.if-not-read_sound.true))

pub loop-i-preserved : goal.loop-i-preserved
loop-i-preserved c =
    let t = table_of c.args.self.now in
    let i = c.loop-i.invariant in
    let tested = server_tested t c.loop-i.i c.loop-i.sum (sym c.head_sound.ensures ∙ c.if-not-head_sound.false) c.loop-i-test.true c.if-weight-capacity.false c.if-self-i.false i.sum in
    record {
      high = i.high;
      sound = all_below-more (server_sound t) c.loop-i.i i.sound (tested ∙ sym (rw c.read_p.ensures at c.read_sound.ensures) ∙ c.if-not-read_sound.false);
      sum = rw total-more (cc);
      small = search rules;
    }
