-- Write (document 01, "The calls"; document 02, item 7): its reply, and the table and the medium that it leaves, whole and with a
-- number of burns. t is the table and m the medium as lent.
use Rattle.std.specs.Prelude.{ℕ, cond, List, ◌∷◌, length, take, leb}
use Rattle.medium.specs.Word.{id_word, value_word, replaced}
use Rattle.medium.specs.Entry.{entry_at, value_at}
use Rattle.medium.specs.Burn.{Burn, burn_all, invalidations}
use Rattle.table.specs.declared.Table.{Table}
use Rattle.table.specs.Parts.{used_of}
use Rattle.upkeep.specs.Upkeep.{with_entry}
use Rattle.replies.specs.Refusal.{settle}
use Rattle.replies.specs.declared.Reply.{Reply}
use Rattle.replies.specs.Reply.{on_server, reply_by}
use Rattle.planning.specs.WriteRows.{target, write_rows}
use Rattle.invalidation.specs.Marks.{marks_from}

-- the marks of the earlier live entries on readable servers at or above the write server
unfoldable pub write_marks : Table → List ℕ → ℕ → List ℕ
write_marks t m id = marks_from t m id (target t id)

-- the value word, the id word, then the invalidations
unfoldable pub write_burns : Table → List ℕ → ℕ → ℕ → List Burn
write_burns t m id value =
    let k = target t id in
    record { address = value_at t.capacity k (used_of t k); word = value_word value }
    ∷ record { address = entry_at t.capacity k (used_of t k); word = id_word id }
    ∷ invalidations replaced (write_marks t m id)

unfoldable pub write_reply : Table → List ℕ → ℕ → ℕ → ℕ → Reply
write_reply t m tenant id value = reply_by (write_rows t m tenant id value) (on_server (target t id) (length (write_marks t m id)))

unfoldable pub write_table : Table → List ℕ → ℕ → ℕ → ℕ → Table
write_table t m tenant id value = settle (write_rows t m tenant id value) (with_entry t (target t id)) t

unfoldable pub write_medium : Table → List ℕ → ℕ → ℕ → ℕ → List ℕ
write_medium t m tenant id value = settle (write_rows t m tenant id value) (burn_all m (write_burns t m id value)) m

-- The body, of which the plain call is the one that makes them all. With a number of burns n it makes the first n of them, all
-- where there are no more; the reply is the plain call's, whatever n is. Where not all are made the table is as lent.
unfoldable pub write_some_table : Table → List ℕ → ℕ → ℕ → ℕ → ℕ → Table
write_some_table t m tenant id value n =
    settle (write_rows t m tenant id value) (cond (leb (length (write_burns t m id value)) n) (with_entry t (target t id)) t) t

unfoldable pub write_some_medium : Table → List ℕ → ℕ → ℕ → ℕ → ℕ → List ℕ
write_some_medium t m tenant id value n = settle (write_rows t m tenant id value) (burn_all m (take n (write_burns t m id value))) m
