-- An entry that a write takes, spoilt or complete, and which entry of the id is the top one then. Plain numbers and lists.
-- Assumes nothing.
use Prim.Native.Nat.{ℕ, ◌+◌, ◌≤◌, ◌<◌}
use mathlib.Core.Path.{◌≡◌, refl, sym, ap, ap₂, ◌∙◌, subst}
use mathlib.Core.Logic.{◌≢◌, ◌⊎◌, inl, inr, ⊎_elim}
use mathlib.Core.Bool.{Bool, true, false, ◌&&◌, not}
use mathlib.Core.List.{List, ◌∷◌}
use Rattle.std.specs.Prelude.{Option, None, Some}
use native.Mathlib.Omega.{arith}
use native.Mathlib.Nat.{add-zero}
use lib.ListN.{length}
use lib.Dec.{leb, ltb, eqb}
use borrow.Author.Tests.{ltb-true, ltb-false, leb-true, leb-false, le-leb, eqb-true, eqb-false, eq-eqb}
use Rattle.limits.specs.Limits.{content_range}
use Rattle.lists.specs.Below.{nth}
use Rattle.lists.proofs.Tests.{by_bool, true-not-false, and_l, and_r, and_i, iff-eq, except}
use Rattle.medium.specs.Word.{blank}
use Rattle.medium.specs.Entry.{entry_words, server_at, entry_at, mark_at, bears, blank_run}
use Rattle.medium.proofs.Places.{entry_in, entry-apart}
use Rattle.medium.proofs.Entries.{bears-i, bears-id, bears-cong, blank-not}
use Rattle.search.specs.declared.Place.{Place}
use Rattle.history.specs.Ledger.{Event, wrote, spent, used_by}
use Rattle.history.proofs.Tops.{Upto, Top, TopAt, top-cong}
use Rattle.history.proofs.Events.{place_of, EachWrite, each-wrote, each_on, spent-no-write, Takes, wrote-takes, spent-takes, used-self, used-other, used_grows, used-new, wrote_self, wrote-other, spent-placed}
use Rattle.history.proofs.Holds.{InEntry, Holds, bears-used, Once, once-blank, once-written, once-filled}
use Rattle.history.proofs.MarkedMedium.{Gone, Invalidated}

-- N is m but for the id word and the value word of an entry
pub record Aside (capacity : ℕ) (m : List ℕ) (server j : ℕ) (N : List ℕ) : Type 0 where
  pub long : length N ≡ length m
  pub off : (a : ℕ) → ((r : ℕ) → r < 2 → a ≡ entry_at capacity server j + r → ⊥) → nth N a ≡ nth m a

-- what N has to hold so that one entry more, the next of a server, is used by an event
record More (capacity count : ℕ) (rule : ℕ → ℕ → Bool) (events : List Event) (m : List ℕ) (server : ℕ) (x : Event) (N : List ℕ) : Type 0 where
  long : length N ≡ length m
  rest : (a : ℕ) → server_at capacity count ≤ a → nth N a ≡ nth m a
  others : (k j q : ℕ) → used_by events k ≤ j → j < capacity → q < 3 → (k ≡ server → j ≡ used_by events server → ⊥)
      → nth N (entry_at capacity k j + q) ≡ nth m (entry_at capacity k j + q)
  once : Once m N
  full : blank_run N (entry_at capacity server (used_by events server)) entry_words ≡ false
  written : EachWrite (x ∷ events) (λ newer older id value k. InEntry capacity N id value k (used_by older k))
  opens : (a k j : ℕ) → a < content_range → k < count → j < capacity → bears capacity N a k j ≡ true → rule a k ≡ true
  tops : (a : ℕ) → a < content_range → TopAt (bears capacity N a) count capacity (place_of (x ∷ events) a)

module _ {capacity count : ℕ} {rule : ℕ → ℕ → Bool} {events : List Event} {m : List ℕ} (H : Holds capacity count rule events m)
    {server : ℕ} (there : server < count) (room : used_by events server < capacity) where
  abbrev entry : ℕ
  entry = used_by events server

  abbrev address : ℕ
  address = entry_at capacity server entry

  was-blank : (q : ℕ) → q < 3 → nth m (address + q) ≡ blank
  was-blank q b = H.free server entry q there (omega arith) room b

  -- the new entry bore nothing
  not-borne : (a k j : ℕ) → a < content_range → k ≡ server → j ≡ entry → bears capacity m a k j ≡ true → ⊥
  not-borne a k j n x y b = omega (arith, ap (used_by events) x, bears-used H a k j n (omega arith) (omega arith) b)

  grow : {x : Event} {N : List ℕ} → Takes x server → More capacity count rule events m server x N → Holds capacity count rule (x ∷ events) N
  grow {x} {N} T G = record {
    long = omega (arith, H.long, G.long);
    rest = λ a l i. G.rest a l ∙ H.rest a l (omega (arith, G.long));
    free = λ k j q l u i b.
        let v : used_by events k ≤ j = omega (arith, used_grows T events k) in
        G.others k j q v i b (λ y z. omega (arith, used-self T events, ap (used_by (x ∷ events)) y)) ∙ H.free k j q l v i b;
    fits = λ k. by_bool (eqb k server)
        (λ d. rw (eqb-true k server d, used-self T events) room)
        (λ d. rw (used-other T events k (eqb-false k server d)) (H.fits k));
    filled = λ k j l u. by_bool (ltb j (used_by events k))
        (λ d. once-filled m N G.once (entry_at capacity k j) entry_words (H.filled k j l (ltb-true j (used_by events k) d)))
        (λ d.
        let z = used-new T events k j (ltb-false j (used_by events k) d) u in
        rw (z.0, z.1) G.full);
    none_above = λ k l. used-other T events k (λ e. omega arith) ∙ H.none_above k l;
    written = G.written;
    opens = G.opens;
    tops = G.tops;
  }

  module _ {N : List ℕ} (D : Aside capacity m server (used_by events server) N) where
    aside-rest : (a : ℕ) → server_at capacity count ≤ a → nth N a ≡ nth m a
    aside-rest a l = D.off a (λ r b e. omega (arith, entry_in capacity count server entry r there room (omega arith)))

    aside-mark : (k j : ℕ) → j < capacity → nth N (mark_at capacity k j) ≡ nth m (mark_at capacity k j)
    aside-mark k j i = D.off (mark_at capacity k j) (λ r b e. omega (arith, (entry-apart capacity k j 2 server entry r i room (omega arith) (omega arith) e).2))

    aside-others : (k j q : ℕ) → j < capacity → q < 3 → (k ≡ server → j ≡ entry → ⊥) → nth N (entry_at capacity k j + q) ≡ nth m (entry_at capacity k j + q)
    aside-others k j q i b f = D.off (entry_at capacity k j + q) (λ r c e. let x = entry-apart capacity k j q server entry r i room b (omega arith) e in f x.0 x.1)

    pub aside-old : (k j q : ℕ) → j < used_by events k → q < 3 → nth N (entry_at capacity k j + q) ≡ nth m (entry_at capacity k j + q)
    aside-old k j q u b = aside-others k j q (omega (arith, H.fits k)) b (λ x y. omega (arith, ap (used_by events) x))

    aside-once : Once m N
    aside-once a f = D.off a (λ r b e. f (ap (nth m) e ∙ was-blank r (omega arith)))

    aside-bears : (a k j : ℕ) → j < capacity → (k ≡ server → j ≡ entry → ⊥) → bears capacity N a k j ≡ bears capacity m a k j
    aside-bears a k j i f = bears-cong capacity N m a k j (record {
      id_same = rw add-zero at (aside-others k j 0 i (omega arith) f);
      mark_same = aside-mark k j i;
    })

    -- an entry without an id in its id word bears nothing: it is spent
    module _ (spoiled : content_range ≤ nth N address) (full : blank_run N address entry_words ≡ false) where
      same-bears : (a k j : ℕ) → a < content_range → j < capacity → bears capacity N a k j ≡ bears capacity m a k j
      same-bears a k j n i = by_bool (eqb k server && eqb j entry)
          (λ d.
          let x = eqb-true k server (and_l (eqb k server) (eqb j entry) d) in
          let y = eqb-true j entry (and_r (eqb k server) (eqb j entry) d) in
          iff-eq _ _ (λ b. absurd (omega (arith, bears-id capacity N a k j b, ap₂ (λ (k j : ℕ). nth N (entry_at capacity k j)) x y))) (λ b. absurd (not-borne a k j n x y b)))
          (λ d. aside-bears a k j i (λ x y. true-not-false (and_i (eqb k server) (eqb j entry) (eq-eqb k server x) (eq-eqb j entry y)) d))

      pub spoilt-holds : Holds capacity count rule (spent server ∷ events) N
      spoilt-holds = grow (spent-takes server) (record {
        long = D.long;
        rest = aside-rest;
        others = λ k j q u i b f. aside-others k j q i b f;
        once = aside-once;
        full = full;
        written = each_on _ (spent-no-write server) (λ newer older a v k e. once-written m N aside-once (H.written newer older a v k e));
        opens = λ a k j n l i b. H.opens a k j n l i (sym (same-bears a k j n i) ∙ b);
        tops = λ a n. rw (spent-placed server a events) (top-cong (bears capacity m a) (bears capacity N a) count capacity (λ k j l i. same-bears a k j n i) (place_of events a) (H.tops a n));
      })

-- what an accepted write has passed, and that its server is readable for the id
pub record Accepted (capacity count : ℕ) (rule : ℕ → ℕ → Bool) (events : List Event) (id value server : ℕ) : Type 0 where
  pub small : id < content_range
  pub small_value : value < content_range
  pub there : server < count
  pub room : used_by events server < capacity
  pub reads : rule id server ≡ true

-- the servers on which a write invalidates: the readable ones at or above its own
abbrev pub from_server : (ℕ → ℕ → Bool) → ℕ → ℕ → ℕ → Bool
from_server rule id server k = leb server k && rule id k

-- M has the two words in the new entry, and N some or all of the marks besides
module _ {capacity count : ℕ} {rule : ℕ → ℕ → Bool} {events : List Event} {m : List ℕ} (H : Holds capacity count rule events m)
    {id value server : ℕ} (W : Accepted capacity count rule events id value server)
    {M N : List ℕ} (D : Aside capacity m server (used_by events server) M) (E : InEntry capacity M id value server (used_by events server))
    (G : Invalidated capacity count events m id (from_server rule id server) M N) where
  abbrev next : ℕ
  next = used_by events server

  abbrev new_place : Place
  new_place = record { server = server; entry = next }

  pub new-borne : bears capacity N id server next ≡ true
  new-borne = G.keeps id server next W.room
      (λ q b. not-borne H W.there W.room id server next W.small refl refl b)
      (bears-i capacity M id server next E.id_there (aside-mark H W.there W.room D server next W.room ∙ was-blank H W.there W.room 2 (omega arith)))

  -- what bears an id bore it before, or is the new entry
  data From (a k j : ℕ) : Type 0 where
    fresh : k ≡ server → j ≡ next → a ≡ id → From a k j
    before : bears capacity m a k j ≡ true → From a k j

  from : (a k j : ℕ) → j < capacity → bears capacity N a k j ≡ true → From a k j
  from a k j i b = by_bool (eqb k server && eqb j next)
      (λ d.
      let x = eqb-true k server (and_l (eqb k server) (eqb j next) d) in
      let y = eqb-true j next (and_r (eqb k server) (eqb j next) d) in
      fresh x y (sym (bears-id capacity M a k j (G.less a k j i b)) ∙ ap₂ (λ (k j : ℕ). nth M (entry_at capacity k j)) x y ∙ E.id_there))
      (λ d. before (
      sym (aside-bears H W.there W.room D a k j i (λ x y. true-not-false (and_i (eqb k server) (eqb j next) (eq-eqb k server x) (eq-eqb j next y)) d))
      ∙ G.less a k j i b))

  once : Once m N
  once a f = let o = aside-once H W.there W.room D in G.once a (λ e. f (once-blank m M o a e)) ∙ o a f

  value_stands : nth N (entry_at capacity server next + 1) ≡ nth M (entry_at capacity server next + 1)
  value_stands = G.words server next 1 W.room (omega arith)

  full : blank_run N (entry_at capacity server next) entry_words ≡ false
  full = blank-not N (entry_at capacity server next) entry_words 1 (omega arith) (λ e. omega (arith, e, value_stands, E.value_there, W.small_value))

  opens : (a k j : ℕ) → a < content_range → k < count → j < capacity → bears capacity N a k j ≡ true → rule a k ≡ true
  opens a k j n l i b = go (from a k j i b)
    where
      go : From a k j → rule a k ≡ true
      go (fresh x y z) = rw (x, z) W.reads
      go (before o) = H.opens a k j n l i o

  others-kept : (a : ℕ) → a < content_range → a ≢ id → TopAt (bears capacity N a) count capacity (place_of events a)
  others-kept a n f = top-cong (bears capacity m a) (bears capacity N a) count capacity
      (λ k j l i. iff-eq _ _
      (λ b. go k j (from a k j i b))
      (λ b. G.others a k j l i f (aside-bears H W.there W.room D a k j i (λ x y. not-borne H W.there W.room a k j n x y b) ∙ b)))
      (place_of events a) (H.tops a n)
    where
      go : (k j : ℕ) → From a k j → bears capacity m a k j ≡ true
      go k j (fresh x y z) = absurd (f z)
      go k j (before o) = o

  new-written : InEntry capacity N id value server next
  new-written = record {
    id_there = (rw add-zero at (G.words server next 0 W.room (omega arith))) ∙ E.id_there;
    value_there = value_stands ∙ E.value_there;
    id_small = W.small;
    value_small = W.small_value;
  }

  old-written : EachWrite events (λ newer older a v k. InEntry capacity N a v k (used_by older k))
  old-written newer older a v k e = once-written m N once (H.written newer older a v k e)

  taken : {x : Event} → Takes x server
      → EachWrite (x ∷ events) (λ newer older a v k. InEntry capacity N a v k (used_by older k))
      → ((a : ℕ) → a < content_range → TopAt (bears capacity N a) count capacity (place_of (x ∷ events) a))
      → Holds capacity count rule (x ∷ events) N
  taken T written tops = grow H W.there W.room T (record {
    long = G.long;
    rest = λ a l. G.rest a l ∙ aside-rest H W.there W.room D a l;
    others = λ k j q u i b f. G.free k j q u i b ∙ aside-others H W.there W.room D k j q i b f;
    once = once;
    full = full;
    written = written;
    opens = opens;
    tops = tops;
  })

  -- the new entry is the top one: the write has happened
  happened : Top (bears capacity N id) count capacity new_place → Holds capacity count rule (wrote id value server ∷ events) N
  unfolding TopAt
  happened top = taken (wrote-takes id value server) (each-wrote _ new-written old-written) (λ a n. by_bool (eqb a id)
      (λ d. rw (eqb-true a id d, wrote_self id value server events) top)
      (λ d. rw (wrote-other id value server a events (eqb-false a id d)) (others-kept a n (eqb-false a id d))))

  -- the old one is: the entry is spent
  in-vain : TopAt (bears capacity N id) count capacity (place_of events id) → Holds capacity count rule (spent server ∷ events) N
  in-vain top = taken (spent-takes server) (each_on _ (spent-no-write server) old-written) (λ a n. rw (spent-placed server a events) (by_bool (eqb a id)
      (λ d. rw (eqb-true a id d) top)
      (λ d. others-kept a n (eqb-false a id d))))

  -- where the others lie below
  new-top : ((k j : ℕ) → k < count → j < capacity → bears capacity m id k j ≡ true → bears capacity N id k j ≡ true → k ≤ server) → Top (bears capacity N id) count capacity new_place
  new-top f = record { low = W.there; inside = W.room; on = new-borne; above = λ k j l i b. go k j l i b (from id k j i b) }
    where
      go : (k j : ℕ) → k < count → j < capacity → bears capacity N id k j ≡ true → From id k j → Upto k j new_place
      go k j l i b (fresh x y z) = record { below = omega arith; beside = λ q. omega arith }
      go k j l i b (before o) = record { below = f k j l i o b; beside = λ q. omega (arith, bears-used H id k j W.small l i o, ap (used_by events) q) }

  -- an entry of the id at or above the server was to go
  to-go : (k j : ℕ) → k < count → j < capacity → bears capacity m id k j ≡ true → server ≤ k → from_server rule id server k ≡ true
  to-go k j l i o s = and_i (leb server k) (rule id k) (le-leb server k s) (H.opens id k j W.small l i o)

  gone-top : Gone capacity count m id (from_server rule id server) N → Top (bears capacity N id) count capacity new_place
  gone-top g = new-top (λ k j l i o b. by_bool (leb server k)
      (λ d. absurd (g k j l i (to-go k j l i o (leb-true server k d)) o b))
      (λ d. omega (arith, leb-false server k d)))

  -- with all marks burned the write has happened
  pub write-holds : Gone capacity count m id (from_server rule id server) N → Holds capacity count rule (wrote id value server ∷ events) N
  write-holds g = happened (gone-top g)

  -- and what an older entry bears then
  pub old-borne : Gone capacity count m id (from_server rule id server) N → (a k j : ℕ) → k < count → j < used_by events k
      → bears capacity N a k j ≡ bears capacity m a k j && not (eqb id a && leb server k)
  old-borne g a k j l u =
      let i : j < capacity = omega (arith, H.fits k) in
      let same = aside-bears H W.there W.room D a k j i (λ x y. omega (arith, ap (used_by events) x)) in
      except (bears capacity N a k j) (bears capacity m a k j) (eqb id a && leb server k)
      (λ d b.
      let e = eqb-true id a (and_l (eqb id a) (leb server k) d) in
      let o = subst (λ (z : ℕ). bears capacity m z k j ≡ true) (sym e) (sym same ∙ G.less a k j i b) in
      g k j l i (to-go k j l i o (leb-true server k (and_r (eqb id a) (leb server k) d))) o (subst (λ (z : ℕ). bears capacity N z k j ≡ true) (sym e) b))
      (λ b. sym same ∙ G.less a k j i b)
      (λ d o. G.keeps a k j i
      (λ q b. true-not-false (and_i (eqb id a) (leb server k) (eq-eqb id a (sym (bears-id capacity m id k j b) ∙ bears-id capacity m a k j o)) (and_l (leb server k) _ q)) d)
      (same ∙ o))

  -- with some of them burned it has happened, or the entry is spent
  module _ (y : Place) (top : Top (bears capacity m id) count capacity y) (is : place_of events id ≡ Some y) where
    still-top : server < y.server → bears capacity N id y.server y.entry ≡ true → Top (bears capacity N id) count capacity y
    still-top up on = record { low = top.low; inside = top.inside; on = on; above = λ k j l i b. go k j l i (from id k j i b) }
      where
        go : (k j : ℕ) → k < count → j < capacity → From id k j → Upto k j y
        go k j l i (fresh x z w) = record { below = omega arith; beside = λ q. absurd (omega arith) }
        go k j l i (before o) = top.above k j l i o

    by_order : Holds capacity count rule (wrote id value server ∷ events) N ⊎ Holds capacity count rule (spent server ∷ events) N
    unfolding TopAt
    by_order = by_bool (leb y.server server)
        (λ d. inl (happened (new-top (λ k j l i o b. omega (arith, (top.above k j l i o).below, leb-true y.server server d)))))
        (λ d.
        let up : server < y.server = leb-false y.server server d in
        ⊎_elim (λ on. inr (in-vain (rw is (still-top up on)))) (λ g. inl (write-holds g))
        (G.order y top (to-go y.server y.entry top.low top.inside top.on (omega arith))))

  pub outcome : Holds capacity count rule (wrote id value server ∷ events) N ⊎ Holds capacity count rule (spent server ∷ events) N
  unfolding TopAt
  outcome = go (place_of events id) refl (H.tops id W.small)
    where
      go : (o : Option Place) → place_of events id ≡ o → TopAt (bears capacity m id) count capacity o
          → Holds capacity count rule (wrote id value server ∷ events) N ⊎ Holds capacity count rule (spent server ∷ events) N
      go None q top = inl (happened (new-top (λ k j l i o b. absurd (top.off k j l i o))))
      go (Some y) q top = by_order y top q
