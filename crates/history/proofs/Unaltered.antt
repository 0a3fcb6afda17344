-- A word that is not blank stays as it is through every list of turns, from any table and medium.
-- Assumes nothing.
use Prim.Native.Nat.{ℕ}
use mathlib.Core.Path.{◌≡◌, refl, sym, ap, ◌∙◌}
use mathlib.Core.Logic.{◌≢◌}
use mathlib.Core.List.{List, [], ◌∷◌, ◌++◌, map, map-append}
use lib.ListN.{take}
use Rattle.lists.specs.Below.{nth}
use Rattle.medium.specs.Word.{blank}
use Rattle.medium.specs.Burn.{Burn, burn_all}
use Rattle.replies.proofs.Refusals.{settle-yes, settle-either}
use Rattle.deletion.specs.Deletion.{delete_rows, delete_burns, delete_some_medium}
use Rattle.planning.specs.WriteRows.{write_rows}
use Rattle.writing.specs.Writing.{write_burns, write_some_medium}
use Rattle.archive.proofs.Once.{AtBlank, write-at-blank, delete-at-blank, write-once, delete-once}
use Rattle.history.specs.Beam.{Beam}
use Rattle.history.specs.Call.{Call, add_server, reweight, write, delete, lookup, batch, Turn, plain, crashed_write, crashed_delete}
use Rattle.history.specs.Machine.{State, next, crash_write, crash_delete, recovered, turned, after_turns, after}
use Rattle.history.proofs.Strikes.{struck, strike-off}

next-once : (S : State) (c : Call) (a : ℕ) → nth S.medium a ≢ blank → nth (next S c).medium a ≡ nth S.medium a
unfolding next
next-once S (add_server weight) a f = refl
next-once S (reweight server weight) a f = refl
next-once S (write tenant id value) a f = write-once S.table S.medium tenant id value a f
next-once S (delete tenant id) a f = delete-once S.table S.medium tenant id a f
next-once S (lookup tenant id) a f = refl
next-once S (batch tenant ids) a f = refl

-- burns on blank words, any number of them and with any word under the beam
struck-once : (m : List ℕ) (bs : List Burn) → AtBlank m bs → (n : ℕ) (beam : Beam) (a : ℕ) → nth m a ≢ blank → nth (struck m bs n beam) a ≡ nth m a
struck-once m bs h n beam a f = strike-off bs m n beam a (λ b d e. f (ap (nth m) e ∙ h b d))

turned-once : (S : State) (x : Turn) (a : ℕ) → nth S.medium a ≢ blank → nth (turned S x).medium a ≡ nth S.medium a
unfolding turned recovered crash_write crash_delete write_some_medium delete_some_medium
turned-once S (plain c) a f = next-once S c a f
turned-once S (crashed_write tenant id value n beam) a f =
    let t = S.table in
    let m = S.medium in
    settle-either (write_rows t m tenant id value) _ m (λ (w : List ℕ). nth w a ≡ nth m a)
    (λ z. rw (settle-yes (write_rows t m tenant id value) (burn_all m (take n (write_burns t m id value))) m z)
    (struck-once m (write_burns t m id value) (write-at-blank t m tenant id value z) n beam a f))
    refl
turned-once S (crashed_delete tenant id n beam) a f =
    let t = S.table in
    let m = S.medium in
    settle-either (delete_rows t m tenant id) _ m (λ (w : List ℕ). nth w a ≡ nth m a)
    (λ z. rw (settle-yes (delete_rows t m tenant id) (burn_all m (take n (delete_burns t m id))) m z)
    (struck-once m (delete_burns t m id) (delete-at-blank t m id) n beam a f))
    refl

pub after-once : (turns : List Turn) (S : State) (a : ℕ) → nth S.medium a ≢ blank → nth (after_turns S turns).medium a ≡ nth S.medium a
unfolding after_turns
after-once [] S a f = refl
after-once (x ∷ turns) S a f = let e = turned-once S x a f in after-once turns (turned S x) a (λ b. f (sym e ∙ b)) ∙ e

pub after-append : (before later : List Turn) (S : State) → after_turns S (before ++ later) ≡ after_turns (after_turns S before) later
unfolding after_turns
after-append [] later S = refl
after-append (x ∷ before) later S = after-append before later (turned S x)

-- the same of lists of calls
pub after-calls : (before later : List Call) (S : State) → after S (before ++ later) ≡ after (after S before) later
after-calls before later S = ap (after_turns S) (map-append plain before later) ∙ after-append (map plain before) (map plain later) S
