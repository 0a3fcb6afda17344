-- What is known where none of the shared rows applies.
-- Assumes nothing.
use Prim.Native.Nat.{ℕ, ◌<◌}
use mathlib.Core.Path.{◌≡◌, refl, ap}
use mathlib.Core.Bool.{Bool, true, false, not, ◌||◌}
use mathlib.Core.List.{List}
use lib.Dec.{eqb}
use borrow.Author.Tests.{ltb-false, not-false}
use Rattle.limits.specs.Limits.{content_range}
use Rattle.lists.proofs.Tests.{or-false}
use Rattle.tenants.specs.Tenant.{out_of_range, of_another}
use Rattle.tenants.proofs.Tenants.{id-in-range}
use Rattle.medium.specs.Entry.{AllInside}
use Rattle.table.specs.declared.Table.{Table}
use Rattle.table.specs.Parts.{used_of}
use Rattle.table.specs.Sound.{sound}
use Rattle.table.proofs.Soundness.{sound-facts}
use Rattle.replies.specs.Refusal.{first_of}
use Rattle.replies.proofs.Refusals.{passed, numbered, first-same}
use Rattle.checks.specs.Ready.{short, ready_rows, asked_rows}

-- what a call may take for granted
pub record Ready (t : Table) (m : List ℕ) : Type 0 where
  pub is_sound : sound t ≡ true
  pub inside : AllInside t.capacity t.count (used_of t) m

-- each test failed
pub record ReadyTests (t : Table) (m : List ℕ) (outside other : Bool) : Type 0 where
  pub unsound : not (sound t) ≡ false
  pub within : outside ≡ false
  pub own : other ≡ false
  pub none : eqb t.count 0 ≡ false
  pub is_short : short t m ≡ false

module _ (t : Table) (m : List ℕ) (outside other : Bool) where
  ready-tests : first_of (ready_rows t m outside other) ≡ 0 → ReadyTests t m outside other
  unfolding ready_rows
  ready-tests z =
      let a = passed 0 (not (sound t)) _ z in
      let b = passed 1 outside _ a.1 in
      let o = passed 10 other _ b.1 in
      let d = passed 2 (eqb t.count 0) _ o.1 in
      let e = passed 4 (short t m) _ d.1 in
      record { unsound = a.0; within = b.0; own = o.0; none = d.0; is_short = e.0 }

  pub ready-accepted : first_of (ready_rows t m outside other) ≡ 0 → Ready t m
  unfolding short
  ready-accepted z =
      let r = ready-tests z in
      let s = sound-facts t (not-false _ r.unsound) in
      record { is_sound = not-false _ r.unsound; inside = record { small = s.high; few = s.few; fits = λ k l. (s.server k l).fits; long = ltb-false _ _ r.is_short } }

-- a call that a tenant makes for an id: the id and the other arguments are in range
pub record Asked (id : ℕ) (outside : Bool) : Type 0 where
  pub small : id < content_range
  pub within : outside ≡ false

module _ (t : Table) (m : List ℕ) (tenant id : ℕ) (outside : Bool) where
  pub asked-numbered : numbered (asked_rows t m tenant id outside) ≡ true
  unfolding asked_rows ready_rows numbered
  asked-numbered = refl

  module _ (z : first_of (asked_rows t m tenant id outside) ≡ 0) where
    pub asked-tests : ReadyTests t m (outside || out_of_range tenant id) (of_another tenant id)
    unfolding asked_rows
    asked-tests = ready-tests t m _ _ z

    pub asked-ready : Ready t m
    unfolding asked_rows
    asked-ready = ready-accepted t m _ _ z

    pub asked-accepted : Asked id outside
    asked-accepted =
        let b = or-false outside (out_of_range tenant id) asked-tests.within in
        record { small = id-in-range tenant id b.1; within = b.0 }

-- the rows of two tables and two media whose tests say the same
pub asked-same : (t u : Table) (m w : List ℕ) (tenant id : ℕ) (outside : Bool) → sound t ≡ sound u → t.count ≡ u.count → short t m ≡ short u w
    → first_of (asked_rows t m tenant id outside) ≡ first_of (asked_rows u w tenant id outside)
unfolding asked_rows ready_rows
asked-same t u m w tenant id outside s c l =
    first-same 1 _ _ _ _ (ap not s) (λ _.
    first-same 2 _ _ _ _ refl (λ _.
    first-same 11 _ _ _ _ refl (λ _.
    first-same 3 _ _ _ _ (ap (λ (n : ℕ). eqb n 0) c) (λ _.
    first-same 5 _ _ _ _ l (λ _. refl)))))
