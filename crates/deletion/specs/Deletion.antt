-- Delete (document 01, "The calls" and its table of refusals; document 02, items 2 and 7): its rows of refusals in the order of the
-- tests, its reply, and the medium that it leaves, whole and with a number of burns. t is the table and m the medium as lent.
use Rattle.std.specs.Prelude.{ℕ, Bool, true, false, not, List, [], ◌∷◌, ◌++◌, length, take, Option, None, Some}
use Rattle.medium.specs.Word.{deleted}
use Rattle.medium.specs.Burn.{Burn, burn_all, invalidations}
use Rattle.table.specs.declared.Table.{Table}
use Rattle.replies.specs.Refusal.{Row, ◌when◌, settle}
use Rattle.replies.specs.declared.Reply.{Reply}
use Rattle.replies.specs.Reply.{on_server, reply_by}
use Rattle.checks.specs.Ready.{asked_rows}
use Rattle.search.specs.declared.Place.{Place}
use Rattle.search.specs.Search.{search_for}
use Rattle.invalidation.specs.Marks.{marks_from}

-- the search meets an entry
unfoldable pub is_met : Option Place → Bool
is_met None = false
is_met (Some p) = true

-- the caller's tenant, then the id
unfoldable pub delete_rows : Table → List ℕ → ℕ → ℕ → List Row
delete_rows t m tenant id =
    asked_rows t m tenant id false
    ++ (8 when not (is_met (search_for t m id).met) ∷ [])

-- the marks of every live entry on every readable server, from server 0 up
unfoldable pub delete_marks : Table → List ℕ → ℕ → List ℕ
delete_marks t m id = marks_from t m id 0

abbrev pub delete_burns : Table → List ℕ → ℕ → List Burn
delete_burns t m id = invalidations deleted (delete_marks t m id)

unfoldable pub delete_reply : Table → List ℕ → ℕ → ℕ → Reply
delete_reply t m tenant id = reply_by (delete_rows t m tenant id) (on_server 0 (length (delete_marks t m id)))

unfoldable pub delete_medium : Table → List ℕ → ℕ → ℕ → List ℕ
delete_medium t m tenant id = settle (delete_rows t m tenant id) (burn_all m (delete_burns t m id)) m

-- The body, of which the plain call is the one that makes them all. With a number of burns n it makes the first n of them, all
-- where there are no more; the reply is the plain call's, whatever n is, and the table is as lent.
unfoldable pub delete_some_medium : Table → List ℕ → ℕ → ℕ → ℕ → List ℕ
delete_some_medium t m tenant id n = settle (delete_rows t m tenant id) (burn_all m (take n (delete_burns t m id))) m
