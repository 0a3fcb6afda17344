-- `batch_words::lookup_batch` meets its contract: by whether the runs are long enough, then by whether the list is refused.
use mathlib.Core.Bool.{true, false}
use mathlib.Core.Path.{◌≡◌, refl, sym, ap, ◌∙◌}
use native.Mathlib.Omega.{arith}
use lib.ListN.{length, take}
use Prim.Native.Nat.{◌≤◌}
use Rattle.std.proofs.lemmas.List.{length-take-le}
use borrow.Author.Rules.{rules}
use Rattle.table.specs.declared.Table.{Table}
use Rattle.table_words.specs.Words.{table_from}
use Rattle.table_words.proofs.Lent.{front-table, front-kept, front-stored}
use Rattle.upkeep.specs.Upkeep.{with_opened}
use Rattle.batch_words.proofs.Storing.{paste-front, no_table, no_mounts, mount-kept, no_room, room, long-runs, few-ids, mounts-small, batch-short, batch-refused, batch-done}
use Rattle.batch_words.proofs.lookup_batch.Goals as goal

pub returns-then-not-fits : goal.returns-then-not-fits
returns-then-not-fits c =
    let a = c.args in
    let b = batch-short a.table.now a.medium.now a.tenant a.ids.now a.replies.now a.order.now a.mounts.now false (no_room _ a.table.now a.replies.now a.order.now a.mounts.now (sym c.fits.ensures ∙ c.if-not-fits.true)) refl in
    record { number = b.0; table = b.1.0; replies = b.1.1.0; order = b.1.1.1.0; mounts = b.1.1.1.1 }

pub returns-in_default : goal.returns-in_default
returns-in_default c =
    let a = c.args in
    let b = batch-short a.table.now a.medium.now a.tenant a.ids.now a.replies.now a.order.now a.mounts.now false (no_mounts _ a.table.now a.replies.now a.order.now a.mounts.now (omega (arith, c.in_default.ensures.item.3))) refl in
    record { number = b.0; table = b.1.0; replies = b.1.1.0; order = b.1.1.1.0; mounts = b.1.1.1.1 }

pub returns-in_default-first_chunk_mut : goal.returns-in_default-first_chunk_mut
returns-in_default-first_chunk_mut c =
    let a = c.args in
    let b = batch-short a.table.now a.medium.now a.tenant a.ids.now a.replies.now a.order.now a.mounts.now false (no_table _ a.table.now a.replies.now a.order.now a.mounts.now c.in_default-first_chunk_mut.ensures.cases) refl in
    record { number = b.0; table = b.1.0; replies = b.1.1.0; order = b.1.1.1.0; mounts = mount-kept a.mounts.now (c.in-Some.ensures.item.3.1 0) ∙ b.1.1.1.1 }

pub returns-in-Err : goal.returns-in-Err
returns-in-Err c =
    let a = c.args in
    let front = c.in-Some-first_chunk_mut.ensures.cases in
    let fit = room _ a.table.now a.replies.now a.order.now a.mounts.now front.enough (omega (arith, c.in-Some.ensures.item.3.0)) (sym c.fits.ensures ∙ c.if-not-fits.false) in
    let b = batch-refused a.table.now a.medium.now a.tenant a.ids.now a.replies.now a.order.now a.mounts.now true fit refl _ (rw (c.view_of.ensures.table, front-table a.table.now c.in-Some-first_chunk_mut.words.now front) at c.lookup_batch_in.ensures) c.in-Err.is in
    record { number = c.number.ensures ∙ b.0; table = front-kept a.table.now c.in-Some-first_chunk_mut.words.now front ∙ b.1.0; replies = b.1.1.0; order = b.1.1.1.0; mounts = mount-kept a.mounts.now (c.in-Some.ensures.item.3.1 0) ∙ b.1.1.1.1 }

pub store_replies-requires : goal.store_replies-requires
store_replies-requires c = record {
  few = few-ids (table_from c.args.table.now) c.args.medium.now c.args.tenant _ (rw (c.view_of.ensures.table, front-table c.args.table.now c.in-Some-first_chunk_mut.words.now c.in-Some-first_chunk_mut.ensures.cases) at c.lookup_batch_in.ensures) c.in-Ok.is;
  room = (long-runs _ c.args.table.now c.args.replies.now c.args.order.now c.args.mounts.now (sym c.fits.ensures ∙ c.if-not-fits.false)).has_replies;
}

pub shared_ref_as_front-store_array : goal.shared_ref_as_front-store_array
shared_ref_as_front-store_array c = few-ids (table_from c.args.table.now) c.args.medium.now c.args.tenant _ (rw (c.view_of.ensures.table, front-table c.args.table.now c.in-Some-first_chunk_mut.words.now c.in-Some-first_chunk_mut.ensures.cases) at c.lookup_batch_in.ensures) c.in-Ok.is

pub store_array-requires : goal.store_array-requires
store_array-requires c =
    let runs = long-runs _ c.args.table.now c.args.replies.now c.args.order.now c.args.mounts.now (sym c.fits.ensures ∙ c.if-not-fits.false) in
    let few = few-ids (table_from c.args.table.now) c.args.medium.now c.args.tenant _ (rw (c.view_of.ensures.table, front-table c.args.table.now c.in-Some-first_chunk_mut.words.now c.in-Some-first_chunk_mut.ensures.cases) at c.lookup_batch_in.ensures) c.in-Ok.is in
    let wide : length c.in-Ok.batch.order ≡ 256 = search rules in
    omega (arith, length-take-le (length c.args.ids.now) c.in-Ok.batch.order (omega (arith, few, wide)), runs.has_order)

pub overflow_cast-mount : goal.overflow_cast-mount
overflow_cast-mount c =
    omega (arith, mounts-small (table_from c.args.table.now) c.args.medium.now c.args.tenant _ (rw (c.view_of.ensures.table, front-table c.args.table.now c.in-Some-first_chunk_mut.words.now c.in-Some-first_chunk_mut.ensures.cases) at c.lookup_batch_in.ensures) c.in-Ok.is (omega (arith, c.view_of.ensures.count, ap (λ (t : Table). t.count) (c.view_of.ensures.table ∙ front-table c.args.table.now c.in-Some-first_chunk_mut.words.now c.in-Some-first_chunk_mut.ensures.cases))))

pub returns-in-Ok : goal.returns-in-Ok
returns-in-Ok c =
    let a = c.args in
    let front = c.in-Some-first_chunk_mut.ensures.cases in
    let fit = room _ a.table.now a.replies.now a.order.now a.mounts.now front.enough (omega (arith, c.in-Some.ensures.item.3.0)) (sym c.fits.ensures ∙ c.if-not-fits.false) in
    let runs = long-runs _ a.table.now a.replies.now a.order.now a.mounts.now (sym c.fits.ensures ∙ c.if-not-fits.false) in
    let listed = few-ids (table_from a.table.now) a.medium.now a.tenant _ (rw (c.view_of.ensures.table, front-table a.table.now c.in-Some-first_chunk_mut.words.now front) at c.lookup_batch_in.ensures) c.in-Ok.is in
    let wide : length c.in-Ok.batch.order ≡ 256 = search rules in
    let few : length (take (length a.ids.now) c.in-Ok.batch.order) ≤ length a.order.now = omega (arith, length-take-le (length a.ids.now) c.in-Ok.batch.order (omega (arith, listed, wide)), runs.has_order) in
    let stored = front-stored a.table.now c.in-Some-first_chunk_mut.words.now front (λ (t : Table). with_opened t a.tenant c.opened.result) _ c.count_opened.ensures in
    let b = batch-done a.table.now a.medium.now a.tenant a.ids.now a.replies.now a.order.now a.mounts.now true fit refl _ (rw (c.view_of.ensures.table, front-table a.table.now c.in-Some-first_chunk_mut.words.now front) at c.lookup_batch_in.ensures) c.in-Ok.is (search rules) _ c.opened.ensures _ _ _ _ stored c.store_replies.ensures (c.store_array.ensures ∙ paste-front _ a.order.now few) refl in
    record { number = b.0; table = b.1.0; replies = b.1.1.0; order = b.1.1.1.0; mounts = b.1.1.1.1 }
