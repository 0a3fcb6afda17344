-- What invalidating an id's entries does to the medium, after some or all of the burns. Plain numbers and lists.
-- Assumes nothing.
use Prim.Native.Nat.{ℕ, ◌+◌, ◌≤◌, ◌<◌}
use mathlib.Core.Path.{◌≡◌, sym, ap, ◌∙◌}
use mathlib.Core.Logic.{◌≢◌, ◌⊎◌, inl, inr, ⊎_elim}
use mathlib.Core.Bool.{Bool, true}
use mathlib.Core.List.{List, [], ◌∷◌, ◌++◌, Memᴰ}
use native.Mathlib.Omega.{arith}
use native.Mathlib.Nat.{add-zero}
use lib.ListN.{length}
use Rattle.limits.specs.Limits.{content_range}
use Rattle.lists.specs.Below.{nth}
use Rattle.medium.specs.Word.{blank}
use Rattle.medium.specs.Entry.{server_at, entry_at, mark_at, bears, live}
use Rattle.medium.specs.Burn.{Burn, marks_over, invalidations}
use Rattle.medium.proofs.Places.{entry_in, entry-apart}
use Rattle.medium.proofs.Entries.{bears-i, bears-id, bears-mark, live-i, live-used, live-bears}
use Rattle.medium.proofs.Burns.{mark_burn, address-in, word_in, burn-in, invalidations-last}
use Rattle.medium.proofs.Marks.{MarkOf, Final, marks-out, marks-in, marks-last}
use Rattle.search.specs.declared.Place.{Place}
use Rattle.history.specs.Beam.{Beam}
use Rattle.history.specs.Ledger.{Event, used_by}
use Rattle.history.proofs.Strikes.{struck, length-struck, strike-off, Burnable, strike-all, strike-order}
use Rattle.history.proofs.Tops.{Top}
use Rattle.history.proofs.Holds.{Holds, bears-used, Once, once-blank}

-- none is left of the entries that bore an id on the servers that pass
abbrev pub Gone : ℕ → ℕ → List ℕ → ℕ → (ℕ → Bool) → List ℕ → Type 0
Gone capacity count m id p N = (k j : ℕ) → k < count → j < capacity → p k ≡ true → bears capacity m id k j ≡ true → bears capacity N id k j ≡ true → ⊥

-- N is M with some or all of the marks of those entries that bear an id in m, on the servers that pass. M itself is m, or m with words
-- in an entry that was not used.
pub record Invalidated (capacity count : ℕ) (events : List Event) (m : List ℕ) (id : ℕ) (p : ℕ → Bool) (M N : List ℕ) : Type 0 where
  pub long : length N ≡ length m
  -- as in M: id and value words, words of entries that were not used, words past the last server, words that are not blank
  pub words : (k j q : ℕ) → j < capacity → q < 2 → nth N (entry_at capacity k j + q) ≡ nth M (entry_at capacity k j + q)
  pub free : (k j q : ℕ) → used_by events k ≤ j → j < capacity → q < 3 → nth N (entry_at capacity k j + q) ≡ nth M (entry_at capacity k j + q)
  pub rest : (a : ℕ) → server_at capacity count ≤ a → nth N a ≡ nth M a
  pub once : Once M N
  -- no entry comes to bear an id; what was not to go goes on, other ids among it
  pub less : (a k j : ℕ) → j < capacity → bears capacity N a k j ≡ true → bears capacity M a k j ≡ true
  pub keeps : (a k j : ℕ) → j < capacity → (p k ≡ true → bears capacity m id k j ≡ true → ⊥) → bears capacity M a k j ≡ true → bears capacity N a k j ≡ true
  pub others : (a k j : ℕ) → k < count → j < capacity → a ≢ id → bears capacity M a k j ≡ true → bears capacity N a k j ≡ true
  -- the top one goes on, or all that were to go are gone
  pub order : (y : Place) → Top (bears capacity m id) count capacity y → p y.server ≡ true
      → (bears capacity N id y.server y.entry ≡ true) ⊎ Gone capacity count m id p N

module _ {capacity count : ℕ} {rule : ℕ → ℕ → Bool} {events : List Event} {m : List ℕ} (H : Holds capacity count rule events m)
    (id : ℕ) (small : id < content_range) (p : ℕ → Bool)
    (M : List ℕ) (long : length M ≡ length m)
    (old : (k j q : ℕ) → k < count → j < used_by events k → q < 3 → nth M (entry_at capacity k j + q) ≡ nth m (entry_at capacity k j + q))
    (content : ℕ) (mark : content ≤ 2) (n : ℕ) (beam : Beam) where
  abbrev marks : List ℕ
  marks = marks_over capacity (used_by events) m id p count

  abbrev burns : List Burn
  burns = invalidations content marks

  abbrev N : List ℕ
  N = struck M burns n beam

  abbrev Mark : ℕ → Type 0
  Mark a = MarkOf capacity (used_by events) m id p count a

  mark-used : (a : ℕ) (x : Mark a) → x.entry < used_by events x.server
  mark-used a x = live-used capacity (used_by events x.server) m id x.server x.entry x.is_live

  mark-in : (a : ℕ) (x : Mark a) → x.entry < capacity
  mark-in a x = omega (arith, mark-used a x, H.fits x.server)

  off : (a : ℕ) → (Mark a → ⊥) → nth N a ≡ nth M a
  off a f = strike-off burns M n beam a (λ b d e. f (marks-out capacity (used_by events) m id p count a (rw e (address-in content marks b d))))

  -- a word of an entry that is one of these marks
  record Own (k j q : ℕ) : Type 0 where
    third : q ≡ 2
    passes : p k ≡ true
    is_live : live capacity (used_by events k) m id k j ≡ true

  own : (k j q : ℕ) → j < capacity → q < 3 → Mark (entry_at capacity k j + q) → Own k j q
  own k j q i b x =
      let e = entry-apart capacity k j q x.server x.entry 2 i (mark-in _ x) b (omega arith) x.is in
      record { third = e.2; passes = rw e.0 x.passes; is_live = rw (e.0, e.1) x.is_live }

  same-words : (k j q : ℕ) → j < capacity → q < 2 → nth N (entry_at capacity k j + q) ≡ nth M (entry_at capacity k j + q)
  same-words k j q i b = off (entry_at capacity k j + q) (λ x. omega (arith, (own k j q i (omega arith) x).third))

  same_id : (k j : ℕ) → j < capacity → nth N (entry_at capacity k j) ≡ nth M (entry_at capacity k j)
  same_id k j i = rw add-zero at (same-words k j 0 i (omega arith))

  -- a mark falls on a blank word
  once : Once M N
  once a f = off a (λ x. f (
      ap (nth M) x.is
      ∙ old x.server x.entry 2 x.below (mark-used a x) (omega arith)
      ∙ bears-mark capacity m id x.server x.entry (live-bears capacity (used_by events x.server) m id x.server x.entry x.is_live)))

  keeps : (a k j : ℕ) → j < capacity → (p k ≡ true → bears capacity m id k j ≡ true → ⊥) → bears capacity M a k j ≡ true → bears capacity N a k j ≡ true
  keeps a k j i f b = bears-i capacity N a k j
      (same_id k j i ∙ bears-id capacity M a k j b)
      (off (mark_at capacity k j) (λ x. let o = own k j 2 i (omega arith) x in f o.passes (live-bears capacity (used_by events k) m id k j o.is_live))
      ∙ bears-mark capacity M a k j b)

  -- what bears the id in m has its id word in M
  old_id : (k j : ℕ) → k < count → j < capacity → bears capacity m id k j ≡ true → nth M (entry_at capacity k j) ≡ id
  old_id k j l i b =
      (rw add-zero at (old k j 0 l (bears-used H id k j small l i b) (omega arith)))
      ∙ bears-id capacity m id k j b

  -- what bears the id in m is still live by the used ones
  live-there : (k j : ℕ) → k < count → j < capacity → bears capacity m id k j ≡ true → live capacity (used_by events k) m id k j ≡ true
  live-there k j l i b = live-i capacity (used_by events k) m id k j (bears-used H id k j small l i b) b

  burnable : Burnable burns M
  burnable b d =
      let x = marks-out capacity (used_by events) m id p count b.address (address-in content marks b d) in (
        λ e. omega (arith, word_in content marks b d, e),
        omega (arith, H.long, long, x.is, entry_in capacity count x.server x.entry 2 x.below (mark-in b.address x) (omega arith)),
      )

  -- the mark of an entry that was to go
  burn-of : (k j : ℕ) → k < count → j < capacity → p k ≡ true → bears capacity m id k j ≡ true → Memᴰ (mark_burn content (mark_at capacity k j)) burns
  burn-of k j l i q b = burn-in content (mark_at capacity k j) marks (marks-in capacity (used_by events) m id p count k j l q (live-there k j l i b))

  -- with no burn left over all are gone
  pub all-gone : length burns ≤ n → Gone capacity count m id p N
  all-gone g k j l i q b c = strike-all burns M n beam burnable g (mark_burn content (mark_at capacity k j)) (burn-of k j l i q b) (bears-mark capacity N id k j c)

  -- the mark of the top one is burned last
  final : (y : Place) → Top (bears capacity m id) count capacity y → p y.server ≡ true → Final marks (mark_at capacity y.server y.entry)
  final y T q = marks-last capacity (used_by events) m id p y.server y.entry H.fits (live-there y.server y.entry T.low T.inside T.on) count T.low q
      (λ i r a o e.
      let u = T.above i r a (omega (arith, live-used capacity (used_by events i) m id i r e, H.fits i)) (live-bears capacity (used_by events i) m id i r e) in
      (u.below, u.beside))

  module _ (y : Place) (T : Top (bears capacity m id) count capacity y) (F : Final marks (mark_at capacity y.server y.entry)) where
    abbrev last : Burn
    last = mark_burn content (mark_at capacity y.server y.entry)

    abbrev ordered : List Burn
    ordered = invalidations content F.first ++ (last ∷ [])

    split : burns ≡ ordered
    split = ap (invalidations content) F.split ∙ invalidations-last content F.first (mark_at capacity y.server y.entry)

    stays : nth (struck M ordered n beam) last.address ≡ nth M last.address → bears capacity N id y.server y.entry ≡ true
    stays z =
        let u = bears-used H id y.server y.entry small T.low T.inside T.on in
        let same : nth N (mark_at capacity y.server y.entry) ≡ nth M (mark_at capacity y.server y.entry) = rw split z in
        bears-i capacity N id y.server y.entry
        (same_id y.server y.entry T.inside ∙ old_id y.server y.entry T.low T.inside T.on)
        (same ∙ old y.server y.entry 2 T.low u (omega arith) ∙ bears-mark capacity m id y.server y.entry T.on)

    all-burned : ((b : Burn) → Memᴰ b ordered → nth (struck M ordered n beam) b.address ≢ blank) → Gone capacity count m id p N
    all-burned z k j l i o b g = z (mark_burn content (mark_at capacity k j)) (rw split at (burn-of k j l i o b)) (rw split at (bears-mark capacity N id k j g))

    one_of_two : (bears capacity N id y.server y.entry ≡ true) ⊎ Gone capacity count m id p N
    one_of_two = ⊎_elim (λ z. inl (stays z)) (λ z. inr (all-burned z))
        (strike-order (invalidations content F.first) last M n beam (λ b d e. F.apart (rw e (address-in content F.first b d))) (rw split at burnable))

  pub invalidated : Invalidated capacity count events m id p M N
  invalidated = record {
    long = length-struck M burns n beam ∙ long;
    words = same-words;
    free = λ k j q u i b. off (entry_at capacity k j + q) (λ x. omega (arith, live-used capacity (used_by events k) m id k j (own k j q i b x).is_live));
    rest = λ a l. off a (λ x. omega (arith, x.is, entry_in capacity count x.server x.entry 2 x.below (mark-in a x) (omega arith)));
    once = once;
    less = λ a k j i b. bears-i capacity M a k j
        (sym (same_id k j i) ∙ bears-id capacity N a k j b)
        (once-blank M N once (mark_at capacity k j) (bears-mark capacity N a k j b));
    keeps = keeps;
    others = λ a k j l i f b. keeps a k j i (λ q c. f (sym (bears-id capacity M a k j b) ∙ old_id k j l i c)) b;
    order = λ y T q. one_of_two y T (final y T q);
  }
