-- What the calls make of the counters, whatever table and medium hold: no call but a lookup and a batch changes one; no call reads
-- one, but to test that it is within its bound; and a batch counts what its single lookups would, one after another.
-- Assumes nothing.
use Prim.Native.Nat.{ℕ, ◌+◌, ◌≤◌}
use mathlib.Core.Path.{◌≡◌, refl, sym, ap, ◌∙◌}
use mathlib.Core.List.{List, [], ◌∷◌}
use lib.ListN.{length}
use Rattle.limits.specs.Limits.{max_ids}
use Rattle.lists.specs.Below.{nth, total}
use Rattle.lists.proofs.Below.{total_first, total-cong}
use Rattle.counters.specs.Counter.{in_bounds}
use Rattle.counters.proofs.Counters.{counted-twice, counted-bounds}
use Rattle.table.specs.declared.Table.{Table}
use Rattle.table.specs.Parts.{with_counters}
use Rattle.table.specs.Sound.{sound}
use Rattle.table.specs.Agree.{AgreeBelow}
use Rattle.upkeep.specs.Upkeep.{with_server, with_weight, with_entry, with_opened}
use Rattle.upkeep.proofs.KeptSound.{counters-sound}
use Rattle.replies.specs.declared.Reply.{Reply}
use Rattle.replies.proofs.Refusals.{settle-both, settle-either}
use Rattle.lookup.specs.Lookup.{lookup_reply, lookup_table}
use Rattle.lookup.proofs.Counting.{opened-none}
use Rattle.deletion.specs.Deletion.{delete_reply, delete_medium}
use Rattle.planning.specs.WriteRows.{target, write_rows}
use Rattle.writing.specs.Writing.{write_reply, write_table, write_medium}
use Rattle.recovery.specs.Recovery.{with_used, recover_rows, recover_table}
use Rattle.server_rows.specs.ServerRows.{add_server_rows, reweight_rows}
use Rattle.servers.specs.Servers.{add_server_reply, add_server_table, reweight_reply, reweight_table}
use Rattle.batch.specs.Batch.{batch_reply, batch_table, singly, CountsSingly}
use Rattle.batch.proofs.Counting.{opened-singly}
use Rattle.archive.proofs.BelowCount.{add_server-rows, reweight-rows, write-rows, recover-rows, add_server-same, reweight-same, write_same, delete-below, lookup-below, batch-below}

-- the calls that leave the counters as they are
module _ (t : Table) (m : List ℕ) where
  pub add_server-counters : (weight : ℕ) → (add_server_table t m weight).counters ≡ t.counters
  unfolding add_server_table with_server
  add_server-counters weight = settle-either (add_server_rows t m weight) _ t (λ (u : Table). u.counters ≡ t.counters) (λ _. refl) refl

  pub reweight-counters : (server weight : ℕ) → (reweight_table t server weight).counters ≡ t.counters
  unfolding reweight_table with_weight
  reweight-counters server weight = settle-either (reweight_rows t server weight) _ t (λ (u : Table). u.counters ≡ t.counters) (λ _. refl) refl

  pub write-counters : (tenant id value : ℕ) → (write_table t m tenant id value).counters ≡ t.counters
  unfolding write_table with_entry
  write-counters tenant id value = settle-either (write_rows t m tenant id value) _ t (λ (u : Table). u.counters ≡ t.counters) (λ _. refl) refl

  pub recover-counters : (recover_table t m).counters ≡ t.counters
  unfolding recover_table with_used
  recover-counters = settle-either (recover_rows t m) _ t (λ (u : Table). u.counters ≡ t.counters) (λ _. refl) refl

-- a table, and the same with other counters that are within their bounds exactly when its own are
module _ (t : Table) (counters : List ℕ) (b : in_bounds counters ≡ in_bounds t.counters) where
  abbrev u : Table
  u = with_counters t counters

  pub agree : AgreeBelow u t
  agree = record { capacity = refl; salt = refl; count = refl; weight = λ k l. refl; used = λ k l. refl; read = λ k l. refl }

  pub alike : sound u ≡ sound t
  alike = counters-sound t counters b

  module _ (m : List ℕ) where
    pub add_server-apart : (weight : ℕ) → add_server_table u m weight ≡ with_counters (add_server_table t m weight) counters
    unfolding add_server_table with_server
    add_server-apart weight = settle-both _ _ (add_server-rows u t agree alike m weight) (λ (x y : Table). x ≡ with_counters y counters) _ _ u t (λ _. refl) refl

    pub reweight-apart : (server weight : ℕ) → reweight_table u server weight ≡ with_counters (reweight_table t server weight) counters
    unfolding reweight_table with_weight
    reweight-apart server weight = settle-both _ _ (reweight-rows u t agree alike server weight) (λ (x y : Table). x ≡ with_counters y counters) _ _ u t (λ _. refl) refl

    pub write-apart : (tenant id value : ℕ) → write_table u m tenant id value ≡ with_counters (write_table t m tenant id value) counters
    unfolding write_table with_entry target
    write-apart tenant id value = settle-both _ _ (write-rows u t agree alike m tenant id value) (λ (x y : Table). x ≡ with_counters y counters) _ _ u t (λ _. refl) refl

    pub recover-apart : recover_table u m ≡ with_counters (recover_table t m) counters
    unfolding recover_table with_used
    recover-apart = settle-both _ _ (recover-rows u t agree alike m) (λ (x y : Table). x ≡ with_counters y counters) _ _ u t (λ _. refl) refl

    pub lookup-unread : (tenant id : ℕ) → lookup_reply u m tenant id ≡ lookup_reply t m tenant id
    lookup-unread tenant id = lookup-below u t agree alike m tenant id

    -- every reply and every medium
    pub add_server-unread : (weight : ℕ) → add_server_reply u m weight ≡ add_server_reply t m weight
    add_server-unread weight = add_server-same u t agree alike m weight

    pub reweight-unread : (server weight : ℕ) → reweight_reply u server weight ≡ reweight_reply t server weight
    reweight-unread server weight = reweight-same u t agree alike server weight

    pub write-unread : (tenant id value : ℕ) → (write_reply u m tenant id value ≡ write_reply t m tenant id value) × (write_medium u m tenant id value ≡ write_medium t m tenant id value)
    write-unread tenant id value = write_same u t agree alike m tenant id value

    pub delete-unread : (tenant id : ℕ) → (delete_reply u m tenant id ≡ delete_reply t m tenant id) × (delete_medium u m tenant id ≡ delete_medium t m tenant id)
    delete-unread tenant id = delete-below u t agree alike m tenant id

    pub batch-unread : (tenant : ℕ) (ids : List ℕ) → batch_reply u m tenant ids ≡ batch_reply t m tenant ids
    batch-unread tenant ids = batch-below u t agree alike m tenant ids

-- a lookup is not changed by servers opened before it
after-opened : (t : Table) (m : List ℕ) (tenant id caller opened : ℕ) → lookup_reply (with_opened t caller opened) m tenant id ≡ lookup_reply t m tenant id
unfolding with_opened
after-opened t m tenant id caller opened = lookup-unread t _ (counted-bounds t.counters caller opened) m tenant id

-- servers opened one after another
pub opened-twice : (t : Table) (tenant a b : ℕ) → with_opened (with_opened t tenant a) tenant b ≡ with_opened t tenant (a + b)
unfolding with_opened
opened-twice t tenant a b = ap (with_counters t) (counted-twice t.counters tenant a b)

singly-total : (m : List ℕ) (tenant : ℕ) (ids : List ℕ) (t : Table) → singly t m tenant ids ≡ with_opened t tenant (total (λ i. (lookup_reply t m tenant (nth ids i)).opened) (length ids))
unfolding singly lookup_table total
singly-total m tenant [] t = sym (opened-none t tenant)
singly-total m tenant (id ∷ ids) t =
    let first = (lookup_reply t m tenant id).opened in
    let later : total (λ i. (lookup_reply (with_opened t tenant first) m tenant (nth ids i)).opened) (length ids) ≡ total (λ i. (lookup_reply t m tenant (nth ids i)).opened) (length ids)
    = total-cong _ _ (length ids) (λ i l. ap (λ (r : Reply). r.opened) (after-opened t m tenant (nth ids i) tenant first)) in
    singly-total m tenant ids (with_opened t tenant first)
    ∙ opened-twice t tenant first _
    ∙ ap (λ (n : ℕ). with_opened t tenant (first + n)) later
    ∙ ap (with_opened t tenant) (sym (total_first (λ i. (lookup_reply t m tenant (nth (id ∷ ids) i)).opened) (length ids)))

pub counts-singly : (t : Table) (m : List ℕ) (tenant : ℕ) (ids : List ℕ) → length ids ≤ max_ids → CountsSingly t m tenant ids
unfolding batch_table
counts-singly t m tenant ids few = record {
  opened = opened-singly t m tenant ids few;
  table = ap (with_opened t tenant) (opened-singly t m tenant ids few) ∙ sym (singly-total m tenant ids t);
}
