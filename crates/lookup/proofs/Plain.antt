-- A lookup's reply carries no server and no invalidations.
-- Assumes nothing.
use Prim.Native.Nat.{ℕ}
use mathlib.Core.Path.{◌≡◌, refl}
use mathlib.Core.List.{List}
use Rattle.std.specs.Prelude.{Option, None, Some}
use lib.Dec.{eqb}
use Rattle.lists.specs.Below.{nth}
use Rattle.lists.proofs.Tests.{by_bool}
use Rattle.words.specs.Word.{tag_of}
use Rattle.medium.specs.Entry.{value_at}
use Rattle.table.specs.declared.Table.{Table}
use Rattle.replies.specs.declared.Reply.{Reply}
use Rattle.replies.specs.Reply.{reply_by}
use Rattle.replies.proofs.Refusals.{settle-either}
use Rattle.search.specs.declared.Place.{Place}
use Rattle.search.specs.Search.{search_for}
use Rattle.lookup.specs.Lookup.{lookup_rows, met_reply, lookup_reply}

pub record Plain (r : Reply) : Type 0 where
  pub server : r.server ≡ 0
  pub invalidated : r.invalidated ≡ 0

met-plain : (capacity : ℕ) (m : List ℕ) (opened : ℕ) (o : Option Place) → Plain (met_reply capacity m opened o)
unfolding met_reply
met-plain capacity m opened None = record { server = refl; invalidated = refl }
met-plain capacity m opened (Some p) =
    by_bool (eqb (tag_of (nth m (value_at capacity p.server p.entry))) 1)
    (λ e. rw e (record { server = refl; invalidated = refl }))
    (λ e. rw e (record { server = refl; invalidated = refl }))

pub lookup-plain : (t : Table) (m : List ℕ) (tenant id : ℕ) → Plain (lookup_reply t m tenant id)
unfolding lookup_reply reply_by
lookup-plain t m tenant id = settle-either (lookup_rows t m tenant id) _ _ Plain (λ _. met-plain t.capacity m _ (search_for t m id).met) (record { server = refl; invalidated = refl })
