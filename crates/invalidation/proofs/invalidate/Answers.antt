-- `invalidation::invalidate` meets its contract. The invariant: the servers passed are done, as `Done` says.
use Prim.Native.Nat.{ℕ, ◌≤◌}
use mathlib.Core.Path.{◌≡◌, sym, ◌∙◌}
use mathlib.Core.Bool.{Bool}
use native.Mathlib.Omega.{arith}
use borrow.Author.Tests.{le-leb, lt-leb}
use Rattle.placement.specs.Rule.{takes, readable}
use Rattle.table.specs.declared.Table.{Table}
use Rattle.table.specs.Parts.{table_of, used_of, reads}
use Rattle.invalidation.proofs.Invalidating.{none_done, next-inside, next-few, next-no, next-yes}
use Rattle.invalidation.proofs.invalidate.Invariants.{passes}
use Rattle.invalidation.proofs.invalidate.Goals as goal
use Rattle.invalidation.proofs.invalidate.Goals.{else-takes, then-takes}

-- the code's test of a server
passes-here : (t : Table) (id from k : ℕ) {b : Bool} → b ≡ reads t id k → from ≤ k → passes t id from k ≡ b
passes-here t id from k e l = rw (le-leb from k l) (sym e)

pub loop-k-init : goal.loop-k-init
loop-k-init c =
    let t = table_of c.args.table.now in
    none_done t.capacity t.count (used_of t) c.args.medium.now c.args.id (passes t c.args.id c.args.from) c.args.content c.args.burns c.args.from (λ i h. rw (lt-leb c.args.from i h))

pub invalidate_server-n-requires-clause-inside : goal.invalidate_server-n-requires-clause-inside
invalidate_server-n-requires-clause-inside c = next-inside c.loop-k.invariant c.requires.all_inside (omega arith)

pub invalidate_server-n-requires-clause-n_le_max_sum : goal.invalidate_server-n-requires-clause-n_le_max_sum
invalidate_server-n-requires-clause-n_le_max_sum c = omega (arith, next-few c.loop-k.invariant c.requires.all_inside (omega arith))

pub loop-k-preserved : goal.loop-k-preserved
unfolding readable takes
loop-k-preserved c =
    let d = c.loop-k.invariant in
    let inside = c.requires.all_inside in
    let here = passes-here (table_of c.args.table.now) c.args.id c.args.from c.loop-k.k (rw c.read_p.ensures at c.takes.ensures) (omega arith) in
    elim c.if-takes.branch [
      | then-takes w ↦ next-yes d inside (omega arith) (here ∙ w.if-takes.true) (w.medium-is ∙ w.invalidate_server-n.ensures.words) (w.n-is ∙ w.invalidate_server-n.ensures.count)
      | else-takes w ↦ next-no d inside (omega arith) (here ∙ w.if-takes.false) w.medium-is w.n-is
    ]
