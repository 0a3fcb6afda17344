-- Laws of the ledger's events alone: a server's used, each write's own entry, and an id's last write.
-- Assumes nothing.
use Prim.Native.Nat.{ℕ, suc, ◌+◌, ◌≤◌, ◌<◌}
use mathlib.Core.Path.{◌≡◌, refl, sym, ap, ◌∙◌}
use mathlib.Core.Logic.{◌≢◌}
use mathlib.Core.Bool.{true, cond, not}
use Rattle.std.specs.Prelude.{Option, None, Some}
use mathlib.Core.List.{List, [], ◌∷◌, ◌++◌, tail-eq_of_cons-eq}
use native.Mathlib.Omega.{arith}
use lib.ListN.{length}
use lib.Dec.{eqb}
use borrow.Author.Tests.{not-true, eqb-true, eqb-false, eq-eqb, ne_eqb}
use Rattle.lists.proofs.Tests.{by_bool, and_l, and_r}
use Rattle.search.specs.declared.Place.{Place}
use Rattle.history.specs.Ledger.{Event, wrote, removed, spent, Version, used_by, last_write_of}
use Rattle.history.specs.Demand3.{untouched, LastWrite}

-- where a write has its entry, which is the server's used before it
abbrev pub place_after : List Event → ℕ → Place
place_after older server = record { server = server; entry = used_by older server }

-- where the last write of an id has its entry; the ledger keeps no entries, so the events tell it
unfoldable pub place_of : List Event → ℕ → Option Place
place_of [] id = None
place_of (wrote a value server ∷ older) id = cond (eqb a id) (Some (place_after older server)) (place_of older id)
place_of (removed a ∷ older) id = cond (eqb a id) None (place_of older id)
place_of (spent server ∷ older) id = place_of older id

-- what holds of each write among the events, with those newer and those older
abbrev pub EachWrite : List Event → ((newer older : List Event) (id value server : ℕ) → Type 0) → Type 0
EachWrite events P = (newer older : List Event) (id value server : ℕ) → events ≡ newer ++ (wrote id value server ∷ older) → P newer older id value server

-- no event, and one event more
module _ (P : (newer older : List Event) (id value server : ℕ) → Type 0) where
  pub each_none : EachWrite [] P
  each_none [] older id value server e = let z : ◌≡◌ {A = ℕ} 0 1 = cc in absurd (omega arith)
  each_none (x ∷ newer) older id value server e = let z : ◌≡◌ {A = ℕ} 0 1 = cc in absurd (omega arith)

  pub each-wrote : {events : List Event} {a v k : ℕ} → P [] events a v k → EachWrite events (λ newer. P (wrote a v k ∷ newer)) → EachWrite (wrote a v k ∷ events) P
  each-wrote {events} {a} {v} {k} new old [] older id value server e =
      let y : wrote a v k ≡ wrote id value server = cc in
      let p : a ≡ id = cc in
      let q : v ≡ value = cc in
      let r : k ≡ server = cc in
      let o : events ≡ older = tail-eq_of_cons-eq e in
      rw (← p, ← q, ← r, ← o) new
  each-wrote {events} {a} {v} {k} new old (x ∷ newer) older id value server e =
      let y : wrote a v k ≡ x = cc in
      rw (← y) (old newer older id value server (tail-eq_of_cons-eq e))

  -- an event that is no write
  pub each_on : {events : List Event} {x : Event} → ((a v k : ℕ) → x ≡ wrote a v k → ⊥) → EachWrite events (λ newer. P (x ∷ newer)) → EachWrite (x ∷ events) P
  each_on {events} {x} other old [] older id value server e = let y : x ≡ wrote id value server = cc in absurd (other id value server y)
  each_on {events} {x} other old (z ∷ newer) older id value server e =
      let y : x ≡ z = cc in
      rw (← y) (old newer older id value server (tail-eq_of_cons-eq e))

pub removed-no-write : (id a v k : ℕ) → removed id ≡ wrote a v k → ⊥
removed-no-write id a v k e = let z : ◌≡◌ {A = ℕ} 0 1 = cc in omega arith

pub spent-no-write : (server a v k : ℕ) → spent server ≡ wrote a v k → ⊥
spent-no-write server a v k e = let z : ◌≡◌ {A = ℕ} 0 1 = cc in omega arith

-- an event that takes an entry of a server: a write, and an entry spent
pub record Takes (x : Event) (server : ℕ) : Type 0 where
  pub more : (older : List Event) (k : ℕ) → used_by (x ∷ older) k ≡ cond (eqb server k) 1 0 + used_by older k

pub wrote-takes : (id value server : ℕ) → Takes (wrote id value server) server
unfolding used_by
wrote-takes id value server = record { more = λ older k. refl }

pub spent-takes : (server : ℕ) → Takes (spent server) server
unfolding used_by
spent-takes server = record { more = λ older k. refl }

module _ {x : Event} {server : ℕ} (T : Takes x server) (older : List Event) where
  pub used-self : used_by (x ∷ older) server ≡ suc (used_by older server)
  used-self = T.more older server ∙ rw (eq-eqb server server refl) (omega arith)

  pub used-other : (k : ℕ) → k ≢ server → used_by (x ∷ older) k ≡ used_by older k
  used-other k f = T.more older k ∙ rw (ne_eqb server k (λ e. f (sym e))) (omega arith)

  pub used_grows : (k : ℕ) → used_by older k ≤ used_by (x ∷ older) k
  used_grows k = omega (arith, T.more older k)

  -- an entry that is used now and was not before
  pub used-new : (k j : ℕ) → used_by older k ≤ j → j < used_by (x ∷ older) k → (k ≡ server) × (j ≡ used_by older server)
  used-new k j a b = by_bool (eqb k server)
      (λ d.
      let e = eqb-true k server d in
      (e, omega (arith, used-self, ap (used_by older) e, ap (used_by (x ∷ older)) e)))
      (λ d. absurd (omega (arith, used-other k (eqb-false k server d))))

-- a write's entry is used from then on
used-after : (newer older : List Event) (id value server : ℕ) → used_by older server < used_by (newer ++ (wrote id value server ∷ older)) server
unfolding used_by
used-after [] older id value server = omega (arith, used-self (wrote-takes id value server) older)
used-after (wrote a v k ∷ newer) older id value server = omega (arith, used-after newer older id value server)
used-after (removed a ∷ newer) older id value server = used-after newer older id value server
used-after (spent k ∷ newer) older id value server = omega (arith, used-after newer older id value server)

pub used-write : (events : List Event) → EachWrite events (λ newer older id value server. used_by older server < used_by events server)
used-write events newer older id value server e = rw e (used-after newer older id value server)

-- and it is its own
pub own-entry : (newer newer' older older' : List Event) (id value id' value' server : ℕ)
    → newer ++ (wrote id value server ∷ older) ≡ newer' ++ (wrote id' value' server ∷ older')
    → used_by older server ≡ used_by older' server → length older ≡ length older'
own-entry [] [] older older' id value id' value' server e u = ap length (tail-eq_of_cons-eq e)
own-entry [] (x ∷ newer') older older' id value id' value' server e u =
    absurd (omega (arith, used-write older newer' older' id' value' server (tail-eq_of_cons-eq e)))
own-entry (x ∷ newer) [] older older' id value id' value' server e u =
    absurd (omega (arith, used-write older' newer older id value server (sym (tail-eq_of_cons-eq e))))
own-entry (x ∷ newer) (y ∷ newer') older older' id value id' value' server e u =
    own-entry newer newer' older older' id value id' value' server (tail-eq_of_cons-eq e) u

-- the last write by recursion is the one in words, in its own entry
module _ (id value server : ℕ) (older : List Event) where
  newest-written : (newer : List Event) → untouched id newer ≡ true
      → last_write_of (newer ++ (wrote id value server ∷ older)) id ≡ Some (record { value = value; server = server })
  unfolding last_write_of untouched
  newest-written [] c = rw (eq-eqb id id refl)
  newest-written (wrote a v k ∷ newer) c = rw (not-true (eqb a id) (and_l (not (eqb a id)) (untouched id newer) c)) (newest-written newer (and_r (not (eqb a id)) (untouched id newer) c))
  newest-written (removed a ∷ newer) c = rw (not-true (eqb a id) (and_l (not (eqb a id)) (untouched id newer) c)) (newest-written newer (and_r (not (eqb a id)) (untouched id newer) c))
  newest-written (spent k ∷ newer) c = newest-written newer c

  newest-placed : (newer : List Event) → untouched id newer ≡ true → place_of (newer ++ (wrote id value server ∷ older)) id ≡ Some (place_after older server)
  unfolding place_of untouched
  newest-placed [] c = rw (eq-eqb id id refl)
  newest-placed (wrote a v k ∷ newer) c = rw (not-true (eqb a id) (and_l (not (eqb a id)) (untouched id newer) c)) (newest-placed newer (and_r (not (eqb a id)) (untouched id newer) c))
  newest-placed (removed a ∷ newer) c = rw (not-true (eqb a id) (and_l (not (eqb a id)) (untouched id newer) c)) (newest-placed newer (and_r (not (eqb a id)) (untouched id newer) c))
  newest-placed (spent k ∷ newer) c = newest-placed newer c

module _ (events : List Event) (id value server : ℕ) (w : LastWrite events id value server) where
  pub last_written : last_write_of events id ≡ Some (record { value = value; server = server })
  last_written = ap (λ (h : List Event). last_write_of h id) w.split ∙ newest-written id value server w.older w.newer w.clear

  last-placed : place_of events id ≡ Some (place_after w.older server)
  last-placed = ap (λ (h : List Event). place_of h id) w.split ∙ newest-placed id value server w.older w.newer w.clear

-- and back
last_on : (e : Event) (events : List Event) (id value server : ℕ) → ((l : List Event) → untouched id (e ∷ l) ≡ untouched id l)
    → LastWrite events id value server → LastWrite (e ∷ events) id value server
last_on e events id value server u l =
    record { newer = e ∷ l.newer; older = l.older; split = ap (λ (h : List Event). e ∷ h) l.split; clear = u l.newer ∙ l.clear }

pub last-came : (events : List Event) (id : ℕ) (x : Version) → last_write_of events id ≡ Some x → LastWrite events id x.value x.server
unfolding last_write_of untouched
last-came [] id x e = let z : ◌≡◌ {A = ℕ} 0 1 = cc in absurd (omega arith)
last-came (wrote a v k ∷ older) id x e = by_bool (eqb a id)
    (λ d.
    let q : Some (record { value = v; server = k }) ≡ Some x = rw d at e in
    let y : record { value = v; server = k } ≡ x = cc in
    rw (← y, ← (eqb-true a id d)) (record { newer = []; older = older; split = refl; clear = refl }))
    (λ d. last_on (wrote a v k) older id x.value x.server (λ l. rw d) (last-came older id x (rw d at e)))
last-came (removed a ∷ older) id x e = by_bool (eqb a id)
    (λ d. let r : None ≡ Some x = rw d at e in let z : ◌≡◌ {A = ℕ} 0 1 = cc in absurd (omega arith))
    (λ d. last_on (removed a) older id x.value x.server (λ l. rw d) (last-came older id x (rw d at e)))
last-came (spent k ∷ older) id x e = last_on (spent k) older id x.value x.server (λ l. refl) (last-came older id x e)

pub came-placed : (events : List Event) (id : ℕ) (x : Version) (e : last_write_of events id ≡ Some x)
    → place_of events id ≡ Some (place_after (last-came events id x e).older x.server)
came-placed events id x e = last-placed events id x.value x.server (last-came events id x e)

-- an id without a last write has no place
pub none-placed : (events : List Event) (id : ℕ) → last_write_of events id ≡ None → place_of events id ≡ None
unfolding last_write_of place_of
none-placed [] id e = refl
none-placed (wrote a v k ∷ older) id e = by_bool (eqb a id)
    (λ d. let r : Some (record { value = v; server = k }) ≡ None = rw d at e in let z : ◌≡◌ {A = ℕ} 0 1 = cc in absurd (omega arith))
    (λ d. rw d (none-placed older id (rw d at e)))
none-placed (removed a ∷ older) id e = by_bool (eqb a id) (λ d. rw d) (λ d. rw d (none-placed older id (rw d at e)))
none-placed (spent k ∷ older) id e = none-placed older id e

-- after a write
pub wrote_self : (id value server : ℕ) (older : List Event) → place_of (wrote id value server ∷ older) id ≡ Some (place_after older server)
unfolding place_of
wrote_self id value server older = rw (eq-eqb id id refl)

pub wrote-other : (id value server a : ℕ) (older : List Event) → a ≢ id → place_of (wrote id value server ∷ older) a ≡ place_of older a
unfolding place_of
wrote-other id value server a older f = rw (ne_eqb id a (λ e. f (sym e)))

-- after a delete
pub removed-self : (id : ℕ) (older : List Event) → place_of (removed id ∷ older) id ≡ None
unfolding place_of
removed-self id older = rw (eq-eqb id id refl)

pub removed-other : (id a : ℕ) (older : List Event) → a ≢ id → place_of (removed id ∷ older) a ≡ place_of older a
unfolding place_of
removed-other id a older f = rw (ne_eqb id a (λ e. f (sym e)))

-- after an entry spent
pub spent-placed : (server a : ℕ) (older : List Event) → place_of (spent server ∷ older) a ≡ place_of older a
unfolding place_of
spent-placed server a older = refl
