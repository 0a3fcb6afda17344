-- `batch::lookup_batch_in` meets its contract: the servers that the tests leave, and each of them for every id.
use Prim.Native.Nat.{ℕ, suc, ◌+◌, ◌-◌, ◌<◌}
use mathlib.Core.Bool.{false, cond}
use mathlib.Core.List.{List}
use mathlib.Core.Path.{◌≡◌, refl, ap, ◌∙◌}
use native.Mathlib.Omega.{arith}
use lib.Dec.{eqb}
use Rattle.lists.specs.Below.{nth}
use Rattle.table.specs.declared.Table.{Table}
use Rattle.table.specs.Parts.{table_of}
use Rattle.replies.specs.Refusal.{first_of, settle}
use Rattle.checks.specs.Ready.{ready_rows}
use Rattle.search.proofs.Finding.{each-inside}
use Rattle.batch_answer.specs.Answer.{column, refused_batch, reply_of_batch}
use Rattle.batch_begin.specs.Begin.{Columns, columns_of}
use Rattle.batch_steps.specs.Steps.{column_by}
use Rattle.batch.proofs.BatchParts.{BatchFrom, servers, batch-refused, batch-start, mounted-few, ready-there, opened-few, answers-few, batch-opened, batch-closed, ends-given, batch-done}
use Rattle.batch.proofs.lookup_batch_in.Goals as goal

pub returns-then-n-gt-MAX_IDS : goal.returns-then-n-gt-MAX_IDS
unfolding reply_of_batch
returns-then-n-gt-MAX_IDS c = ap refused_batch c.refuse_list.ensures ∙ batch-refused _ _ _ _ (omega (arith, c.if-n-gt-MAX_IDS.true))

-- the servers that the code goes through are those of the laws
gone-through : (t : Table) (m : List ℕ) (tenant : ℕ) (ids : List ℕ) {number s : ℕ} → number ≡ first_of (ready_rows t m false false) → s ≡ cond (eqb number 0) t.count 0 → s ≡ servers t m tenant ids
unfolding settle
gone-through t m tenant ids e d = rw e at d

-- the parts before the last server, as it is counted down
last-from : (t : Table) (m : List ℕ) (tenant : ℕ) (ids : List ℕ) (k : ℕ) (parts : Columns) (mounted : ℕ) → suc (k - 1) ≡ k → BatchFrom t m tenant ids k parts mounted → BatchFrom t m tenant ids (suc (k - 1)) parts mounted
last-from t m tenant ids k parts mounted e from = rw e from

pub loop-k-init : goal.loop-k-init
loop-k-init c =
    let t = table_of c.args.table.now in
    let number = c.ready-ready.ensures in
    batch-start t c.args.medium.now c.args.tenant c.args.ids.now (omega (arith, c.if-n-gt-MAX_IDS.false)) _ _ number (gone-through t _ c.args.tenant c.args.ids.now number c.searched-servers.ensures) _ c.begin.ensures

pub invariant_of-server : goal.invariant_of-server
invariant_of-server c =
    let t = table_of c.args.table.now in
    let h = ready-there t c.args.medium.now c.args.tenant c.args.ids.now (c.loop-k.k - 1) (omega (arith, c.loop-k.invariant.below)) in
    record {
      inside = each-inside t.capacity t.count (c.loop-k.k - 1) (nth t.used) c.args.medium.now h.1.inside h.0;
      few = h.1.inside.fits (c.loop-k.k - 1) h.0;
    }

-- the first part is that the parts fit into the machine's memory, which each call of a generic function asks
pub step_all-requires : goal.step_all-requires
unfolding column column_by
step_all-requires c =
    let few = opened-few (table_of c.args.table.now) c.args.medium.now c.args.tenant c.args.ids.now c.loop-k.k (columns_of c.loop-k.parts) c.loop-k.invariant.done in
    (omega arith, (refl, λ i l. few i))

-- a server that the code goes through is one of 256
server-few : (t : Table) (m : List ℕ) (tenant : ℕ) (ids : List ℕ) (k : ℕ) → k < servers t m tenant ids → k < 256
server-few t m tenant ids k l = let h = ready-there t m tenant ids k l in omega (arith, h.0, h.1.inside.few)

pub bounds-table-k : goal.bounds-table-k
bounds-table-k c = server-few (table_of c.args.table.now) c.args.medium.now c.args.tenant c.args.ids.now (c.loop-k.k - 1) (omega (arith, c.loop-k.invariant.below))

pub offset_bounds-table-k : goal.offset_bounds-table-k
offset_bounds-table-k c = omega (arith, bounds-table-k c)

pub overflow_add-mounts : goal.overflow_add-mounts
overflow_add-mounts c =
    let t = table_of c.args.table.now in
    let h = ready-there t c.args.medium.now c.args.tenant c.args.ids.now (c.loop-k.k - 1) (omega (arith, c.loop-k.invariant.below)) in
    omega (arith, mounted-few t c.args.medium.now c.args.tenant c.args.ids.now c.loop-k.k (columns_of c.loop-k.parts) c.loop-k.mounts c.loop-k.invariant, h.1.inside.few)

pub loop-k-preserved-then-has : goal.loop-k-preserved-then-has
unfolding column column_by
loop-k-preserved-then-has c =
    let from = last-from _ _ _ _ _ _ _ (omega arith) c.loop-k.invariant in
    batch-opened (table_of c.args.table.now) _ _ _ (c.loop-k.k - 1) _ _ from _ c.step_all.ensures (c.loop-k.k - 1 + 1) (omega arith) c.has.ensures c.if-has.true

pub loop-k-preserved : goal.loop-k-preserved
unfolding column column_by
loop-k-preserved c =
    let from = last-from _ _ _ _ _ _ _ (omega arith) c.loop-k.invariant in
    batch-closed (table_of c.args.table.now) _ _ _ (c.loop-k.k - 1) _ _ from _ c.step_all.ensures (c.loop-k.k - 1 + 1) (omega arith) c.has.ensures c.if-has.false

pub order-requires : goal.order-requires
order-requires c =
    let t = table_of c.args.table.now in
    let e : c.loop-k.k ≡ 0 = omega arith in
    let number = c.ready-ready.ensures in
    let g = ends-given t _ _ _ _ _ (rw e at c.loop-k.invariant) _ (gone-through t _ c.args.tenant c.args.ids.now number c.searched-servers.ensures) in
    record { count_le_max_servers = g.1; by_index = g.2 }

pub gathered-requires : goal.gathered-requires
gathered-requires c = answers-few (table_of c.args.table.now) c.args.medium.now c.args.tenant c.args.ids.now _ _ c.loop-k.invariant.done

pub returns : goal.returns
unfolding reply_of_batch
returns c =
    let t = table_of c.args.table.now in
    let e : c.loop-k.k ≡ 0 = omega arith in
    let number = c.ready-ready.ensures in
    c.gathered.ensures
    ∙ batch-done t _ _ _ _ _ (rw e at c.loop-k.invariant) _ (gone-through t _ c.args.tenant c.args.ids.now number c.searched-servers.ensures) _ c.order.ensures
