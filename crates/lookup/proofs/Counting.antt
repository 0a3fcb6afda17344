-- What a lookup makes of the counters: a refusal before the search leaves the table as lent, and every other lookup counts the
-- servers that its search opened.
-- Assumes nothing.
use Prim.Native.Nat.{ℕ}
use mathlib.Core.Path.{◌≡◌, refl, ap, ◌∙◌}
use mathlib.Core.Logic.{◌≢◌}
use mathlib.Core.List.{List}
use Rattle.std.specs.Prelude.{Option, None, Some}
use lib.ListN.{length}
use lib.Dec.{eqb}
use Rattle.lists.specs.Below.{nth}
use Rattle.lists.proofs.Tests.{by_bool}
use Rattle.counters.proofs.Counters.{counted_none}
use Rattle.words.specs.Word.{tag_of}
use Rattle.medium.specs.Entry.{value_at}
use Rattle.table.specs.declared.Table.{Table}
use Rattle.table.specs.Parts.{with_counters}
use Rattle.upkeep.specs.Upkeep.{with_opened}
use Rattle.replies.specs.declared.Reply.{Reply}
use Rattle.replies.specs.Refusal.{first_of}
use Rattle.replies.specs.Reply.{reply_by}
use Rattle.replies.proofs.Refusals.{settle-yes, settle-no}
use Rattle.search.specs.declared.Place.{Place}
use Rattle.search.specs.Search.{search_for}
use Rattle.lookup.specs.Lookup.{lookup_rows, met_reply, lookup_reply, lookup_table}

pub opened-none : (t : Table) (tenant : ℕ) → with_opened t tenant 0 ≡ t
unfolding with_opened
opened-none t tenant = ap (with_counters t) (counted_none t.counters tenant)

pub met-opened : (capacity : ℕ) (m : List ℕ) (opened : ℕ) (o : Option Place) → (met_reply capacity m opened o).opened ≡ opened
unfolding met_reply
met-opened capacity m opened None = refl
met-opened capacity m opened (Some p) =
    by_bool (eqb (tag_of (nth m (value_at capacity p.server p.entry))) 1) (λ e. rw e refl) (λ e. rw e refl)

module _ (t : Table) (m : List ℕ) (tenant id : ℕ) where
  -- refused before the search
  pub lookup-left : first_of (lookup_rows t m tenant id) ≢ 0 → lookup_table t m tenant id ≡ t
  unfolding lookup_table lookup_reply reply_by
  lookup-left n =
      ap (λ (r : Reply). with_opened t tenant r.opened) (settle-no (lookup_rows t m tenant id) _ _ n) ∙ opened-none t tenant

  -- the search was made
  pub lookup-counted : first_of (lookup_rows t m tenant id) ≡ 0 → lookup_table t m tenant id ≡ with_opened t tenant (length (search_for t m id).opened)
  unfolding lookup_table lookup_reply reply_by
  lookup-counted z =
      let s = search_for t m id in
      ap (λ (r : Reply). with_opened t tenant r.opened) (settle-yes (lookup_rows t m tenant id) _ _ z)
      ∙ ap (with_opened t tenant) (met-opened t.capacity m (length s.opened) s.met)
