-- The medium after the burns of a write, some or all, and with any word under the beam. Plain numbers and lists.
-- Assumes nothing.
use Prim.Native.Nat.{ℕ, zero, suc, ◌+◌, ◌≤◌, ◌<◌}
use mathlib.Core.Path.{◌≡◌, ap, ◌∙◌}
use mathlib.Core.Logic.{inl, inr, ⊎_elim}
use mathlib.Core.Bool.{Bool, true, ◌&&◌, not}
use mathlib.Core.List.Memᴰ
use mathlib.Core.List.{List, [], ◌∷◌, Memᴰ}
use native.Mathlib.Omega.{arith}
use native.Mathlib.Nat.{add-zero}
use lib.ListN.{length, set, length-set}
use lib.Seq.{get_or-set_same, get_or-set_other}
use lib.Dec.{leb, eqb}
use Rattle.limits.specs.Limits.{content_range}
use Rattle.lists.specs.Below.{nth}
use Rattle.medium.specs.Word.{id_word, value_word, replaced, blank}
use Rattle.medium.specs.Entry.{entry_words, entry_at, value_at, bears}
use Rattle.medium.specs.Burn.{Burn, burn_all, marks_over, invalidations}
use Rattle.medium.proofs.Places.{entry_in}
use Rattle.medium.proofs.Entries.{blank-not}
use Rattle.history.specs.Beam.{Beam, dark, right, junk, junk_word, under_beam}
use Rattle.history.specs.Ledger.{Event, wrote, spent, used_by}
use Rattle.history.proofs.Strikes.{struck, junk-word, length-struck, strike-whole, strike-none, strike-off, Burnable, strike-some, strike-append}
use Rattle.history.proofs.Holds.{InEntry, Holds}
use Rattle.history.proofs.MarkedMedium.{Gone, Invalidated, invalidated, all-gone}
use Rattle.history.proofs.WrittenMedium.{Aside, aside-old, spoilt-holds, Accepted, from_server, new-borne as borne-anew, old-borne as borne-before, write-holds as holds-whole, outcome}

-- the burns of a write to a server's next entry: the value word, the id word, and the marks of the id's earlier entries
abbrev pub value_burn : ℕ → ℕ → ℕ → ℕ → Burn
value_burn capacity value server j = record { address = value_at capacity server j; word = value_word value }

abbrev pub id_burn : ℕ → ℕ → ℕ → ℕ → Burn
id_burn capacity id server j = record { address = entry_at capacity server j; word = id_word id }

abbrev pub burns_to : ℕ → ℕ → (ℕ → ℕ → Bool) → List Event → List ℕ → ℕ → ℕ → ℕ → List Burn
burns_to capacity count rule events m id value server =
    value_burn capacity value server (used_by events server)
    ∷ id_burn capacity id server (used_by events server)
    ∷ invalidations replaced (marks_over capacity (used_by events) m id (from_server rule id server) count)

-- what a crashed write leaves: nothing, an entry spent, or the write
pub data Left (capacity count : ℕ) (rule : ℕ → ℕ → Bool) (events : List Event) (m : List ℕ) (id value server : ℕ) (N : List ℕ) : Type 0 where
  as_lent : N ≡ m → Left capacity count rule events m id value server N
  spoilt : Holds capacity count rule (spent server ∷ events) N → Left capacity count rule events m id value server N
  shown : Holds capacity count rule (wrote id value server ∷ events) N → Left capacity count rule events m id value server N

module _ {capacity count : ℕ} {rule : ℕ → ℕ → Bool} {events : List Event} {m : List ℕ} (H : Holds capacity count rule events m)
    {id value server : ℕ} (W : Accepted capacity count rule events id value server) where
  abbrev entry : ℕ
  entry = used_by events server

  abbrev address : ℕ
  address = entry_at capacity server entry

  abbrev marking : List Burn
  marking = invalidations replaced (marks_over capacity (used_by events) m id (from_server rule id server) count)

  abbrev value_first : List Burn
  value_first = value_burn capacity value server entry ∷ []

  inside : (q : ℕ) → q < 3 → address + q < length m
  inside q b = omega (arith, H.long, entry_in capacity count server entry q W.there W.room b)

  was-blank : nth m address ≡ blank
  was-blank = rw add-zero at (H.free server entry 0 W.there (omega arith) W.room (omega arith))

  -- a medium with some of the entry's words, but no id in its id word
  spoiled : (N : List ℕ) → Aside capacity m server entry N → content_range ≤ nth N address → (nth N (address + 1) ≡ blank → ⊥) → Left capacity count rule events m id value server N
  spoiled N D l f = spoilt (spoilt-holds H W.there W.room D l (blank-not N address entry_words 1 (omega arith) f))

  -- the value word, or not
  in-first : (x : Burn) → Memᴰ x value_first → x ≡ value_burn capacity value server entry
  in-first x d = Memᴰ.eq_of_singleton d

  first_off : (a : ℕ) → ((r : ℕ) → r < 2 → a ≡ address + r → ⊥) → (x : Burn) → Memᴰ x value_first → a ≡ x.address → ⊥
  first_off a f x d e = f 1 (omega arith) (e ∙ ap (λ (b : Burn). b.address) (in-first x d))

  first-burnable : Burnable value_first m
  first-burnable x d = rw (in-first x d) (λ e. omega (arith, e, W.small_value), inside 1 (omega arith))

  first-id : (n : ℕ) (beam : Beam) → nth (struck m value_first n beam) address ≡ blank
  first-id n beam = strike-off value_first m n beam address (λ x d e. omega (arith, e, ap (λ (b : Burn). b.address) (in-first x d))) ∙ was-blank

  in-value : (n : ℕ) (beam : Beam) → Left capacity count rule events m id value server (struck m value_first n beam)
  in-value n beam = elim (strike-some value_first m n beam first-burnable) [
    | inl q ↦ as_lent q
    | inr i ↦ spoiled (struck m value_first n beam)
        (record { long = length-struck m value_first n beam; off = λ a f. strike-off value_first m n beam a (first_off a f) })
        (omega (arith, first-id n beam))
        (λ e. i.2 (ap (λ (b : Burn). nth (struck m value_first n beam) b.address) (in-first i.0 i.1) ∙ e))
  ]

  -- the value word, and then a word x in the place of the id's
  valued : List ℕ
  valued = set m (address + 1) (value_word value)

  both : ℕ → List ℕ
  both x = set valued address x

  valued-value : nth valued (address + 1) ≡ value_word value
  unfolding valued
  valued-value = get_or-set_same m (address + 1) (value_word value) 0 (inside 1 (omega arith))

  valued-aside : Aside capacity m server entry valued
  unfolding valued
  valued-aside = record { long = length-set m (address + 1) (value_word value); off = λ a f. get_or-set_other m (address + 1) a (value_word value) 0 (f 1 (omega arith)) }

  valued-id : nth valued address ≡ blank
  unfolding valued
  valued-id = get_or-set_other m (address + 1) address (value_word value) 0 (λ e. omega arith) ∙ was-blank

  both-aside : (x : ℕ) → Aside capacity m server entry (both x)
  unfolding both
  both-aside x = record {
    long = length-set valued address x ∙ valued-aside.long;
    off = λ a f. get_or-set_other valued address a x 0 (λ e. f 0 (omega arith) (rw add-zero e)) ∙ valued-aside.off a f;
  }

  both-id : (x : ℕ) → nth (both x) address ≡ x
  unfolding both
  both-id x = get_or-set_same valued address x 0 (omega (arith, valued-aside.long, inside 0 (omega arith)))

  both-value : (x : ℕ) → nth (both x) (address + 1) ≡ value_word value
  unfolding both
  both-value x = get_or-set_other valued address (address + 1) x 0 (λ e. omega arith) ∙ valued-value

  -- the entry complete, and some or all of the marks
  M : List ℕ
  M = both (id_word id)

  aside : Aside capacity m server entry M
  unfolding M
  aside = both-aside (id_word id)

  in_entry : InEntry capacity M id value server entry
  unfolding M
  in_entry = record { id_there = both-id (id_word id); value_there = both-value (id_word id); id_small = W.small; value_small = W.small_value }

  marked : (n : ℕ) (beam : Beam) → Invalidated capacity count events m id (from_server rule id server) M (struck M marking n beam)
  marked n beam = invalidated H id W.small (from_server rule id server) M aside.long (λ k j q l u b. aside-old H W.there W.room aside k j q u b) replaced (omega arith) n beam

  complete : (n : ℕ) (beam : Beam) → Left capacity count rule events m id value server (struck M marking n beam)
  complete n beam = ⊎_elim shown spoilt (outcome H W aside in_entry (marked n beam))

  -- from the id word on
  in_rest : (n : ℕ) (beam : Beam) → Left capacity count rule events m id value server (struck valued (id_burn capacity id server entry ∷ marking) n beam)
  unfolding under_beam burn_all M both
  in_rest zero dark = spoiled valued valued-aside (omega (arith, valued-id)) (λ e. omega (arith, e, valued-value, W.small_value))
  in_rest zero right = rw (strike-none M marking) at (complete 0 dark)
  in_rest zero (junk r) = spoiled (both (junk_word r)) (both-aside (junk_word r)) (omega (arith, both-id (junk_word r), junk-word r)) (λ e. omega (arith, e, both-value (junk_word r), W.small_value))
  in_rest (suc n) beam = complete n beam

  -- a crash after any number of burns
  pub crash-leaves : (n : ℕ) (beam : Beam) → Left capacity count rule events m id value server (struck m (burns_to capacity count rule events m id value server) n beam)
  unfolding burn_all valued
  crash-leaves n beam = elim (strike-append value_first (id_burn capacity id server entry ∷ marking) m n beam) [
    | inl q ↦ rw q (in-value n beam)
    | inr i ↦ rw i.1 (in_rest i.0 beam)
  ]

  -- the whole write
  abbrev N : List ℕ
  N = burn_all m (burns_to capacity count rule events m id value server)

  whole_is : struck M marking (length marking) dark ≡ N
  unfolding burn_all M both valued
  whole_is = strike-whole M marking

  whole-marked : Invalidated capacity count events m id (from_server rule id server) M N
  whole-marked = rw whole_is at (marked (length marking) dark)

  whole-gone : Gone capacity count m id (from_server rule id server) N
  whole-gone = rw whole_is at (all-gone H id W.small (from_server rule id server) M aside.long (λ k j q l u b. aside-old H W.there W.room aside k j q u b) replaced (omega arith) (length marking) dark (omega arith))

  pub write-holds : Holds capacity count rule (wrote id value server ∷ events) N
  write-holds = holds-whole H W aside in_entry whole-marked whole-gone

  pub new-borne : bears capacity N id server entry ≡ true
  new-borne = borne-anew H W aside in_entry whole-marked

  pub old-borne : (a k j : ℕ) → k < count → j < used_by events k → bears capacity N a k j ≡ bears capacity m a k j && not (eqb id a && leb server k)
  old-borne = borne-before H W aside in_entry whole-marked whole-gone
