-- `upkeep::set_weight` meets its contract.
use Prim.Native.Nat.{ℕ, ◌≤◌, ◌<◌}
use mathlib.Core.Path.{◌≡◌, refl, sym, ap, ◌∙◌}
use mathlib.Core.Bool.{true, false}
use native.Mathlib.Omega.{arith}
use lib.ListN.{set}
use borrow.Author.Rules.{rules}
use Rattle.lists.specs.Below.{nth, total, set_below}
use Rattle.table.specs.declared.Table.{Table}
use Rattle.table.specs.Parts.{shape_of, table_by, read_p}
use Rattle.table.specs.Sound.{sound}
use Rattle.upkeep.specs.Upkeep.{with_weight}
use Rattle.table.proofs.Soundness.{Arrays, sound-facts}
use Rattle.upkeep.proofs.KeptSound.{with_weight-light}
use Rattle.upkeep.proofs.Raising.{raised_below, same-weights, sum_more, raise-more}
use Rattle.upkeep.proofs.set_weight.Goals as goal
use Rattle.upkeep.proofs.set_weight.Goals.{else-not-at_least, then-not-at_least}

-- the table that the loop begins with: the weight is another, and every ReadP is as it was
abbrev reweighed : Table → ℕ → ℕ → Table
reweighed t server weight = table_by (shape_of t) (set t.weights server weight) t.used t.numerators t.denominators t.counters

-- a weight that the loop comes to
light-here : (t next : Table) (server weight n : ℕ) → Arrays t → sound t ≡ true → server < t.count → weight ≤ t.capacity → n < t.count → next ≡ raised_below (reweighed t server weight) n
    → nth next.weights n ≤ 65536
unfolding with_weight
light-here t next server weight n a h l w m e =
    let s = sound-facts t h in
    rw (same-weights (reweighed t server weight) next n e) (omega (arith, with_weight-light t server weight a h l w n m))

pub loop-i-init : goal.loop-i-init
unfolding raised_below set_below total
loop-i-init c = record { raised = refl; sum = refl; small = search rules }

pub overflow_add-sum : goal.overflow_add-sum
overflow_add-sum c =
    let few = (sound-facts c.args.table.now c.requires.table_value).few in
    omega (arith, light-here c.args.table.now _ _ _ _ (search rules) c.requires.table_value c.requires.server_lt_count c.requires.weight_le_capacity c.loop-i-test.true c.loop-i.invariant.raised)

pub loop-i-preserved : goal.loop-i-preserved
loop-i-preserved c =
    let v = c.loop-i.invariant in
    let t = reweighed c.args.table.now c.args.server c.args.weight in
    let read = c.read_p-read.ensures ∙ ap (λ (u : Table). read_p u c.loop-i.i) c.view.ensures in
    let more = raise-more t _ c.loop-i.i v.raised _ v.sum _ _ read c.write_p-write.ensures in
    record {
      raised = elim c.if-not-at_least.branch [
        | then-not-at_least w ↦ w.table-is ∙ more false (sym c.at_least.ensures ∙ w.if-not-at_least.true)
        | else-not-at_least w ↦ w.table-is ∙ more true (sym c.at_least.ensures ∙ w.if-not-at_least.false)
      ];
      sum = sum_more t _ c.loop-i.i v.raised _ v.sum;
      small = omega (arith, light-here c.args.table.now _ _ _ _ (search rules) c.requires.table_value c.requires.server_lt_count c.requires.weight_le_capacity c.loop-i-test.true v.raised);
    }

pub returns : goal.returns
unfolding with_weight raised_below
returns c =
    let e : c.loop-i.i ≡ c.args.table.now.count = omega arith in
    c.loop-i.invariant.raised ∙ ap (raised_below (reweighed c.args.table.now c.args.server c.args.weight)) e
