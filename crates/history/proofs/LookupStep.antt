-- A lookup on both sides.
-- Assumes nothing.
use Prim.Native.Nat.{ℕ, ◌<◌}
use mathlib.Core.Path.{◌≡◌, refl, ap, ap₂, ◌∙◌}
use mathlib.Core.Bool.{Bool, false, ◌&&◌}
use mathlib.Core.List.{List}
use Rattle.std.specs.Prelude.{Option, None, Some}
use native.Mathlib.Omega.{arith}
use lib.ListN.{length}
use lib.Dec.{leb}
use borrow.Author.Tests.{le-ltb, ne_eqb}
use Rattle.limits.specs.Limits.{content_range}
use Rattle.lists.specs.Below.{count_below}
use Rattle.lists.proofs.Below.{count_below-cong}
use Rattle.tenants.specs.Tenant.{tenant_of}
use Rattle.tenants.proofs.Tenants.{own-id, own-in-range}
use Rattle.words.specs.Word.{tag_of, content_of}
use Rattle.medium.specs.Word.{value_word}
use Rattle.medium.specs.Entry.{server_at}
use Rattle.table.specs.declared.Table.{Table}
use Rattle.table.specs.Parts.{reads}
use Rattle.replies.specs.Refusal.{Row, first_of}
use Rattle.replies.specs.Reply.{refused, reply_by}
use Rattle.replies.proofs.Refusals.{settle-yes}
use Rattle.search.specs.declared.Place.{Place}
use Rattle.search.specs.Search.{search_for}
use Rattle.checks.specs.Ready.{short, ready_rows, asked_rows}
use Rattle.lookup.specs.Lookup.{lookup_rows, met_reply, lookup_reply, lookup_table}
use Rattle.search.specs.Opened.{lowest, opens}
use Rattle.search.proofs.Searches.{opened-are}
use Rattle.lookup.proofs.Passed.{lookup-asked}
use Rattle.history.specs.Call.{lookup, compared}
use Rattle.history.specs.Ledger.{Ledger, Version, used_by, last_write_of, lookup_rows_l, opened_from, last_write_reply, rows_of, done_of, enter, reads_l}
use Rattle.history.proofs.Events.{place_of, last-came, came-placed, none-placed}
use Rattle.history.proofs.Holds.{InEntry}
use Rattle.history.proofs.Agree.{Agree, agree-opened, Step, settled, same_asked, same_reads, same_met}

module _ {t : Table} {m : List ℕ} {L : Ledger} (A : Agree t m L) (id : ℕ) where
  pub same_rows : (tenant : ℕ) → first_of (lookup_rows t m tenant id) ≡ first_of (lookup_rows_l L tenant id)
  unfolding lookup_rows lookup_rows_l
  same_rows tenant = same_asked A tenant id false

  -- the servers opened
  same-opened : (from : ℕ) → count_below (λ k. leb from k && reads t id k) t.count ≡ opened_from L id from
  unfolding opened_from
  same-opened from =
      count_below-cong (λ k. leb from k && reads t id k) (λ k. leb from k && reads_l L id k) t.count
      (λ k l. ap (λ (b : Bool). leb from k && b) (same_reads A id k l))
      ∙ ap (count_below (λ k. leb from k && reads_l L id k)) A.count

  opened-number : length (search_for t m id).opened ≡ opened_from L id (lowest (search_for t m id).met)
  unfolding opens
  opened-number = (opened-are t m id).number ∙ same-opened (lowest (search_for t m id).met)

  -- the words of the last write
  pub last-write-words : (x : Version) (e : last_write_of L.events id ≡ Some x)
      → InEntry t.capacity m id x.value x.server (used_by (last-came L.events id x e).older x.server)
  last-write-words x e = let w = last-came L.events id x e in A.holds.written w.newer w.older id x.value x.server w.split

  same-reply : id < content_range → compared (met_reply t.capacity m (length (search_for t m id).opened) (search_for t m id).met) ≡ last_write_reply L id (last_write_of L.events id)
  unfolding compared met_reply last_write_reply lowest
  same-reply n =
      ap₂ (λ (o : ℕ) (p : Option Place). compared (met_reply t.capacity m o p)) (opened-number ∙ ap (λ (p : Option Place). opened_from L id (lowest p)) (same_met A id n)) (same_met A id n)
      ∙ go (last_write_of L.events id) refl
    where
      go : (o : Option Version) → last_write_of L.events id ≡ o
          → compared (met_reply t.capacity m (opened_from L id (lowest (place_of L.events id))) (place_of L.events id)) ≡ last_write_reply L id o
      go None e = rw (none-placed L.events id e)
      go (Some x) e =
          let w = last-write-words x e in
          let tag : tag_of (value_word x.value) ≡ 1 = omega (arith, w.value_small) in
          let content : content_of (value_word x.value) ≡ x.value = omega (arith, w.value_small) in
          rw (came-placed L.events id x e, w.value_there, tag, content)

  pub lookup-step : (tenant : ℕ) → Step (lookup_reply t m tenant id) (lookup_table t m tenant id) m (enter L (lookup tenant id))
  unfolding lookup_reply lookup_table enter rows_of done_of
  lookup-step tenant = settled L (lookup_rows t m tenant id) (lookup_rows_l L tenant id) (same_rows tenant) _ _ (lookup_table t m tenant id) m
      (λ z. record { alike = same-reply (lookup-asked t m tenant id z).small; agrees = agree-opened A tenant _ })
      (λ f. agree-opened A tenant _)

  -- a lookup of an id in range by its own tenant, once a server is there
  abbrev own : List Row
  own = lookup_rows t m (tenant_of id) id

  not-refused : id < content_range → 0 < t.count → first_of own ≡ 0
  unfolding first_of lookup_rows asked_rows ready_rows short
  not-refused n l = rw (
    A.is_sound,
    own-in-range id n,
    own-id id,
    ne_eqb t.count 0 (λ e. omega arith),
    le-ltb (length m) (server_at t.capacity t.count) A.holds.long,
  )

  pub looked : id < content_range → 0 < t.count → compared (lookup_reply t m (tenant_of id) id) ≡ last_write_reply L id (last_write_of L.events id)
  unfolding lookup_reply reply_by
  looked n l =
      let s = search_for t m id in
      ap compared (settle-yes own (met_reply t.capacity m (length s.opened) s.met) (refused (first_of own) 0) (not-refused n l))
      ∙ same-reply n
