-- The server, the opened count and the invalidated count of every reply are 32-bit numbers, whatever the table and the
-- medium hold: a refused call has zeros there, and an accepted call has a sound table.
-- Assumes nothing.
use Prim.Native.Nat.{ℕ, ◌<◌}
use mathlib.Core.Path.{◌≡◌}
use mathlib.Core.List.{List}
use Rattle.std.specs.Prelude.{Option, None, Some}
use native.Mathlib.Omega.{arith}
use lib.Dec.{eqb}
use Rattle.lists.specs.Below.{nth}
use Rattle.lists.proofs.Tests.{by_bool}
use Rattle.lists.proofs.Below.{count_below-le}
use Rattle.words.specs.Word.{tag_of}
use Rattle.medium.specs.Entry.{value_at}
use Rattle.table.specs.declared.Table.{Table}
use Rattle.table.proofs.Soundness.{sound-facts}
use Rattle.replies.specs.Refusal.{Row, first_of}
use Rattle.replies.specs.declared.Reply.{Reply}
use Rattle.replies.specs.Reply.{on_server, reply_by}
use Rattle.replies.proofs.Refusals.{settle-either}
use Rattle.checks.proofs.Passed.{asked-ready}
use Rattle.search.specs.declared.Place.{Place}
use Rattle.search.specs.Search.{search_for}
use Rattle.lookup.specs.Lookup.{lookup_rows, met_reply, lookup_reply}
use Rattle.search.specs.Opened.{opens}
use Rattle.lookup.proofs.Passed.{lookup-accepted}
use Rattle.search.proofs.Searches.{opened-are}
use Rattle.invalidation.proofs.Invalidating.{marks-most}
use Rattle.deletion.specs.Deletion.{delete_rows, delete_marks, delete_reply}
use Rattle.deletion.proofs.Done.{delete-ready}
use Rattle.planning.specs.WriteRows.{target, write_rows}
use Rattle.writing.specs.Writing.{write_marks, write_reply}
use Rattle.planning.proofs.Passed.{write-accepted}
use Rattle.server_rows.specs.ServerRows.{add_server_rows, reweight_rows}
use Rattle.server_rows.proofs.Accepted.{add_server-accepted, reweight-accepted}
use Rattle.servers.specs.Servers.{add_server_reply, reweight_reply}

pub record Small (r : Reply) : Type 0 where
  pub server : r.server < 4294967296
  pub opened : r.opened < 4294967296
  pub invalidated : r.invalidated < 4294967296

-- a refusal carries zeros there
reply-small : (rows : List Row) (done : Reply) → (first_of rows ≡ 0 → Small done) → Small (reply_by rows done)
unfolding reply_by
reply-small rows done f = settle-either rows done _ Small f (record { server = omega arith; opened = omega arith; invalidated = omega arith })

on-small : (k n : ℕ) → k < 4294967296 → n < 4294967296 → Small (on_server k n)
on-small k n l h = record { server = l; opened = omega arith; invalidated = h }

module _ (t : Table) where
  pub add_server-small : (m : List ℕ) (weight : ℕ) → Small (add_server_reply t m weight)
  unfolding add_server_reply
  add_server-small m weight = reply-small (add_server_rows t m weight) _ (λ z. on-small t.count 0 (omega (arith, (add_server-accepted t m weight z).few)) (omega arith))

  pub reweight-small : (server weight : ℕ) → Small (reweight_reply t server weight)
  unfolding reweight_reply
  reweight-small server weight = reply-small (reweight_rows t server weight) _ (λ z.
      let a = reweight-accepted t server weight z in
      let f = sound-facts t a.is_sound in
      on-small server 0 (omega arith) (omega arith))

  pub write-small : (m : List ℕ) (tenant id value : ℕ) → Small (write_reply t m tenant id value)
  unfolding write_reply write_marks
  write-small m tenant id value = reply-small (write_rows t m tenant id value) _ (λ z.
      let a = write-accepted t m tenant id value z in
      on-small (target t id) _ (omega arith) (omega (arith, marks-most t m id (target t id) a.inside)))

  pub delete-small : (m : List ℕ) (tenant id : ℕ) → Small (delete_reply t m tenant id)
  unfolding delete_reply delete_marks
  delete-small m tenant id = reply-small (delete_rows t m tenant id) _ (λ z. on-small 0 _ (omega arith) (omega (arith, marks-most t m id 0 (asked-ready t m tenant id _ (delete-ready t m tenant id z)).inside)))

  met-small : (m : List ℕ) (n : ℕ) → n < 4294967296 → (o : Option Place) → Small (met_reply t.capacity m n o)
  unfolding met_reply
  met-small m n l None = record { server = omega arith; opened = l; invalidated = omega arith }
  met-small m n l (Some p) = by_bool (eqb (tag_of (nth m (value_at t.capacity p.server p.entry))) 1)
      (λ e. rw e (record { server = omega arith; opened = l; invalidated = omega arith }))
      (λ e. rw e (record { server = omega arith; opened = l; invalidated = omega arith }))

  pub lookup-small : (m : List ℕ) (tenant id : ℕ) → Small (lookup_reply t m tenant id)
  unfolding lookup_reply
  lookup-small m tenant id = reply-small (lookup_rows t m tenant id) _ (λ z.
      let f = sound-facts t (lookup-accepted t m tenant id z).is_sound in
      met-small m _ (omega (arith, (opened-are t m id).number, count_below-le (opens t m id) t.count)) (search_for t m id).met)
