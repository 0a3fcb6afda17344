-- Lookup (document 01, "The calls" and its table of refusals; document 02, items 2 and 5): its rows of refusals in the order of the
-- tests, its reply, and the table that it leaves.
-- t is the table and m the medium as lent.
use Rattle.std.specs.Prelude.{ℕ, false, cond, List, length, eqb, Option, None, Some}
use Rattle.lists.specs.Below.{nth}
use Rattle.words.specs.Word.{tag_of, content_of}
use Rattle.medium.specs.Entry.{value_at}
use Rattle.table.specs.declared.Table.{Table}
use Rattle.upkeep.specs.Upkeep.{with_opened}
use Rattle.replies.specs.Refusal.{Row}
use Rattle.replies.specs.declared.Reply.{Reply}
use Rattle.replies.specs.Reply.{refused, found, reply_by}
use Rattle.checks.specs.Ready.{asked_rows}
use Rattle.search.specs.declared.Place.{Place}
use Rattle.search.specs.Search.{search_for}

-- the caller's tenant, then the id
unfoldable pub lookup_rows : Table → List ℕ → ℕ → ℕ → List Row
lookup_rows t m tenant id = asked_rows t m tenant id false

-- what the search says: 8 where it meets no entry, 10 where the value word that it found is of another tag
unfoldable pub met_reply : ℕ → List ℕ → ℕ → Option Place → Reply
met_reply capacity m opened None = refused 8 opened
met_reply capacity m opened (Some p) =
    let word = nth m (value_at capacity p.server p.entry) in
    cond (eqb (tag_of word) 1) (found (content_of word) opened) (refused 10 opened)

unfoldable pub lookup_reply : Table → List ℕ → ℕ → ℕ → Reply
lookup_reply t m tenant id =
    let s = search_for t m id in
    reply_by (lookup_rows t m tenant id) (met_reply t.capacity m (length s.opened) s.met)

-- the caller's counter takes the servers that were opened, whether the lookup is accepted or refused; one that is refused before
-- its search has opened none
unfoldable pub lookup_table : Table → List ℕ → ℕ → ℕ → Table
lookup_table t m tenant id = with_opened t tenant (lookup_reply t m tenant id).opened
