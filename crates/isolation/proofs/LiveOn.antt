-- How many entries of an id are live on a server, by the id's events alone: one or none.
-- Assumes nothing.
use Prim.Native.Nat.{ℕ, zero, suc}
use mathlib.Core.Path.{◌≡◌, refl, sym, ap, ◌∙◌}
use mathlib.Core.Logic.{◌≢◌}
use mathlib.Core.Bool.{Bool, false, cond, not, ◌&&◌, ◌||◌, and-true, and-false, and_assoc}
use mathlib.Core.List.{List, [], ◌∷◌, ◌++◌, append-nil, append_assoc}
use native.Mathlib.Omega.{arith}
use native.Mathlib.Nat.{add-zero, zero-add, add_comm}
use lib.ListN.{length, length-append, length-map}
use lib.Dec.{ltb, eqb}
use borrow.Author.Tests.{eqb-true, eqb-false, le-ltb}
use Rattle.lists.specs.Below.{upward, count_below}
use Rattle.lists.proofs.Tests.{by_bool}
use Rattle.lists.proofs.Below.{count_below-cong, length-upward}
use Rattle.medium.specs.Entry.{mark_at, bears, live}
use Rattle.medium.specs.Burn.{marks_on, marks_over}
use Rattle.medium.proofs.Entries.{bears-id, live_below}
use Rattle.history.specs.Ledger.{Event, wrote, removed, spent, used_by}
use Rattle.history.specs.LiveRule.{stays_live}
use Rattle.history.proofs.Events.{wrote-takes, used-self}
use Rattle.history.proofs.Holds.{Holds}
use Rattle.history.proofs.LiveRule.{not-spent, Ruled}

-- an entry of the id is live on server k: since the id's last write there came no delete of it and no write of it to a lower server
unfoldable pub live_on : List Event → ℕ → ℕ → Bool
live_on [] id k = false
live_on (wrote a value server ∷ older) id k = cond (eqb a id) (eqb server k || (ltb k server && live_on older id k)) (live_on older id k)
live_on (removed a ∷ older) id k = not (eqb a id) && live_on older id k
live_on (spent server ∷ older) id k = live_on older id k

stays-append : (id k : ℕ) (newer older : List Event) → stays_live id k (newer ++ older) ≡ stays_live id k newer && stays_live id k older
unfolding stays_live
stays-append id k [] older = refl
stays-append id k (wrote a v s ∷ newer) older =
    rw (stays-append id k newer older) (sym (and_assoc (not (eqb a id) || ltb k s) (stays_live id k newer) (stays_live id k older)))
stays-append id k (removed a ∷ newer) older =
    rw (stays-append id k newer older) (sym (and_assoc (not (eqb a id)) (stays_live id k newer) (stays_live id k older)))
stays-append id k (spent s ∷ newer) older = stays-append id k newer older

module _ {capacity count : ℕ} {rule : ℕ → ℕ → Bool} {events : List Event} {m : List ℕ} (H : Holds capacity count rule events m) (R : Ruled capacity events m) (id : ℕ) where
  module _ (k : ℕ) where
    abbrev B : ℕ → Bool
    B j = bears capacity m id k j

    -- another id's entry
    not-borne : (newer older : List Event) (a v : ℕ) → events ≡ newer ++ (wrote a v k ∷ older) → a ≢ id → B (used_by older k) ≡ false
    not-borne newer older a v e n = by_bool (B (used_by older k))
        (λ b. absurd (n (sym (H.written newer older a v k e).id_there ∙ bears-id capacity m id k (used_by older k) b)))
        (λ b. b)

    -- the events from an older one on
    below : (newer : List Event) (x : Event) (older : List Event) → events ≡ newer ++ (x ∷ older) → events ≡ (newer ++ (x ∷ [])) ++ older
    below newer x older e = e ∙ sym (append_assoc newer (x ∷ []) older)

    -- the entries of the older events
    count-live : (newer older : List Event) → events ≡ newer ++ older
        → count_below B (used_by older k) ≡ cond (stays_live id k newer && live_on older id k) 1 0
    unfolding used_by live_on count_below stays_live
    count-live newer [] e = rw and-false
    count-live newer (wrote a v s ∷ older) e =
        let ih : count_below B (used_by older k) ≡ cond ((stays_live id k newer && (not (eqb a id) || ltb k s)) && live_on older id k) 1 0 =
        rw (stays-append, and-true) at (count-live (newer ++ (wrote a v s ∷ [])) older (below newer (wrote a v s) older e)) in
        by_bool (eqb s k)
        (λ d.
        let f : events ≡ newer ++ (wrote a v k ∷ older) = rw (eqb-true s k d) at e in
        let u : used_by (wrote a v s ∷ older) k ≡ suc (used_by older k) = rw (eqb-true s k d) (used-self (wrote-takes a v k) older) in
        ap (count_below B) u ∙ by_bool (eqb a id)
        (λ c.
        let r : B (used_by older k) ≡ stays_live id k newer = R.each newer older id v k (rw (eqb-true a id c) at f) in
        let z : count_below B (used_by older k) ≡ 0 = rw (c, eqb-true s k d, le-ltb k k (omega arith), and-false) at ih in
        rw (c, d, and-true, r, z, add-zero))
        (λ c.
        let r = not-borne newer older a v f (eqb-false a id c) in
        rw (c, r, zero-add) (rw (c, and-true) at ih)))
        (λ d. by_bool (eqb a id)
        (λ c. rw (d, c, zero-add) ((rw c at ih) ∙ rw and_assoc))
        (λ c. rw (d, c, zero-add) (rw (c, and-true) at ih)))
    count-live newer (removed a ∷ older) e =
        let ih : count_below B (used_by older k) ≡ cond ((stays_live id k newer && not (eqb a id)) && live_on older id k) 1 0 =
        rw (stays-append, and-true) at (count-live (newer ++ (removed a ∷ [])) older (below newer (removed a) older e)) in
        ih ∙ rw and_assoc
    count-live newer (spent s ∷ older) e = absurd (not-spent newer older s (rw e at R.none))

    -- the marks of the id's entries on the server
    length-on : length (marks_on capacity (used_by events k) m id k) ≡ cond (live_on events id k) 1 0
    unfolding marks_on stays_live
    length-on =
        length-map (upward (live capacity (used_by events k) m id k) (used_by events k)) (mark_at capacity k)
        ∙ length-upward (live capacity (used_by events k) m id k) (used_by events k)
        ∙ count_below-cong (live capacity (used_by events k) m id k) B (used_by events k) (λ j l. live_below capacity (used_by events k) m id k j l)
        ∙ count-live [] events refl

  -- and on those of the servers below n that pass
  pub length_over : (p : ℕ → Bool) (n : ℕ) → length (marks_over capacity (used_by events) m id p n) ≡ count_below (λ k. p k && live_on events id k) n
  unfolding marks_over count_below
  length_over p zero = refl
  length_over p (suc n) = by_bool (p n)
      (λ d. rw (d, length-append, length-on n, length_over p n) (add_comm (count_below (λ k. p k && live_on events id k) n) (cond (live_on events id n) 1 0)))
      (λ d. rw (d, append-nil, length_over p n, zero-add))
