-- Table and medium against the ledger: the relation that every call keeps, and what follows from it for the tests, the
-- write server and the search.
-- Assumes nothing.
use Prim.Native.Nat.{ℕ, ◌*◌, ◌<◌}
use mathlib.Core.Path.{◌≡◌, refl, sym, ap, ap₂, ◌∙◌}
use mathlib.Core.Logic.{◌≢◌}
use mathlib.Core.Bool.{Bool, true}
use mathlib.Core.List.{List}
use Rattle.std.specs.Prelude.{Option, None, Some}
use native.Mathlib.Omega.{arith}
use lib.ListN.{length}
use lib.Dec.{ltb, eqb}
use borrow.Author.Tests.{eqb-true, eqb-false, eq-eqb, ne_eqb}
use Rattle.limits.specs.Limits.{content_range}
use Rattle.lists.proofs.Tests.{by_bool}
use Rattle.placement.proofs.Rules.{readable-cong, write_server-cong}
use Rattle.medium.specs.Entry.{server_at, bears, live}
use Rattle.medium.specs.Burn.{marks_over}
use Rattle.medium.proofs.Entries.{live-i, live-used, live-bears}
use Rattle.medium.proofs.Marks.{marks_over-cong}
use Rattle.table.specs.declared.Table.{Table}
use Rattle.table.specs.Parts.{weight_of, used_of, read_p, reads}
use Rattle.table.specs.Sound.{sound}
use Rattle.table.proofs.Soundness.{Arrays}
use Rattle.upkeep.specs.Upkeep.{with_opened}
use Rattle.upkeep.proofs.Upkeep.{with_opened-arrays}
use Rattle.upkeep.proofs.KeptSound.{with_opened-sound}
use Rattle.replies.specs.Refusal.{Row, first_of}
use Rattle.replies.specs.declared.Reply.{Reply}
use Rattle.replies.specs.Reply.{refused, reply_by}
use Rattle.replies.proofs.Refusals.{settle-yes, settle-no, numbered}
use Rattle.checks.specs.Ready.{short, ready_rows, asked_rows}
use Rattle.search.specs.declared.Place.{Place}
use Rattle.search.specs.Search.{search_for}
use Rattle.search.proofs.Searches.{met_some, met-none}
use Rattle.planning.specs.WriteRows.{target}
use Rattle.history.specs.Call.{compared}
use Rattle.history.specs.Ledger.{Ledger, Entered, enter_by, put, used_by, short_l, asked_rows_l, target_l, reads_l}
use Rattle.history.proofs.Tops.{TopAt, top-same}
use Rattle.history.proofs.Events.{place_of}
use Rattle.history.proofs.Entering.{entered}
use Rattle.history.proofs.Holds.{Holds, bears-used}

pub record Agree (t : Table) (m : List ℕ) (L : Ledger) : Type 0 where
  pub is_sound : sound t ≡ true
  pub arrays : Arrays t
  pub capacity : t.capacity ≡ L.capacity
  pub salt : t.salt ≡ L.salt
  pub count : t.count ≡ L.servers
  pub weights : (k : ℕ) → k < t.count → weight_of t k ≡ L.weight k
  pub used : (k : ℕ) → k < t.count → used_of t k ≡ used_by L.events k
  pub read_ps : (k : ℕ) → k < t.count → read_p t k ≡ L.greatest k
  pub words : length m ≡ L.words
  pub holds : Holds t.capacity t.count (reads_l L) L.events m

-- servers opened for a tenant are no matter of the ledger's
pub agree-opened : {t : Table} {m : List ℕ} {L : Ledger} → Agree t m L → (tenant opened : ℕ) → Agree (with_opened t tenant opened) m L
unfolding with_opened
agree-opened {t = t} A tenant opened = record {
  is_sound = with_opened-sound t tenant opened ∙ A.is_sound;
  arrays = with_opened-arrays t tenant opened A.arrays;
  capacity = A.capacity;
  salt = A.salt;
  count = A.count;
  weights = A.weights;
  used = A.used;
  read_ps = A.read_ps;
  words = A.words;
  holds = A.holds;
}

-- the ledger's way to change one place
module _ {X : Type 0} (f : ℕ → X) (k : ℕ) (x : X) where
  put_same : put f k x k ≡ x
  unfolding put
  put_same = rw (eq-eqb k k refl)

  pub put_other : (i : ℕ) → i ≢ k → put f k x i ≡ f i
  unfolding put
  put_other i n = rw (ne_eqb i k n)

  -- a list that has the new value at k, and is f elsewhere
  pub put_is : (g : ℕ → X) → g k ≡ x → (i : ℕ) → (i ≢ k → g i ≡ f i) → g i ≡ put f k x i
  put_is g e i h = by_bool (eqb i k)
      (λ d. rw (eqb-true i k d) (e ∙ sym put_same))
      (λ d. h (eqb-false i k d) ∙ sym (put_other i (eqb-false i k d)))

-- one call on both sides: reply, table and medium of the archive against what the ledger enters
pub record Step (r : Reply) (t : Table) (m : List ℕ) (e : Entered) : Type 0 where
  pub alike : compared r ≡ e.reply
  pub agrees : Agree t m e.ledger

-- a call whose rows refuse alike on both sides
pub settled : (L : Ledger) (rows rows_l : List Row) → first_of rows ≡ first_of rows_l
    → (done : Reply) (done_l : Entered) (t : Table) (m : List ℕ)
    → (first_of rows ≡ 0 → Step done t m done_l)
    → ((first_of rows ≡ 0 → ⊥) → Agree t m L)
    → Step (reply_by rows done) t m (enter_by L rows_l done_l)
unfolding reply_by compared
settled L rows rows_l same done done_l t m accepts refuses = entered (Step (reply_by rows done) t m) L rows_l done_l
    (λ z. rw (settle-yes rows done (refused (first_of rows) 0) (same ∙ z)) (accepts (same ∙ z)))
    (λ n.
    let f : (first_of rows ≡ 0 → ⊥) = λ z. n (sym same ∙ z) in
    rw (settle-no rows done (refused (first_of rows) 0) f) (record { alike = rw same; agrees = refuses f }))

pub ledger-numbered : (L : Ledger) (tenant id : ℕ) (outside : Bool) → numbered (asked_rows_l L tenant id outside) ≡ true
unfolding asked_rows_l numbered
ledger-numbered L tenant id outside = refl

module _ {t : Table} {m : List ℕ} {L : Ledger} (A : Agree t m L) where
  -- the same tests
  pub same_address : (k n : ℕ) → k ≡ n → server_at t.capacity k ≡ 3 * L.capacity * n
  unfolding server_at
  same_address k n e = ap₂ (λ (c k : ℕ). 3 * c * k) A.capacity e

  same-short : short t m ≡ short_l L
  unfolding short short_l
  same-short = ap₂ ltb A.words (same_address t.count L.servers A.count)

  pub same_asked : (tenant id : ℕ) (outside : Bool) → first_of (asked_rows t m tenant id outside) ≡ first_of (asked_rows_l L tenant id outside)
  unfolding first_of asked_rows ready_rows asked_rows_l
  same_asked tenant id outside = rw (A.is_sound, ap (λ (c : ℕ). eqb c 0) A.count, same-short)

  pub same_target : (id : ℕ) → target t id ≡ target_l L id
  unfolding target target_l
  same_target id = write_server-cong (weight_of t) L.weight _ _ _ _ id A.weights A.count A.salt

  pub same_reads : (id k : ℕ) → k < t.count → reads t id k ≡ reads_l L id k
  same_reads id k l = readable-cong (read_p t) L.greatest _ _ id k A.salt (A.read_ps k l)

  -- the same marks
  pub same-marks : (id : ℕ) (p q : ℕ → Bool) → ((k : ℕ) → k < t.count → p k ≡ q k)
      → marks_over t.capacity (used_of t) m id p t.count ≡ marks_over t.capacity (used_by L.events) m id q t.count
  same-marks id p q h = marks_over-cong t.capacity (used_of t) (used_by L.events) m m id p q t.count h A.used (λ k j l i. record { id_same = refl; mark_same = refl })

  -- the search meets the top entry that bears the id, which is that of its last write
  abbrev B : ℕ → ℕ → ℕ → Bool
  B id k j = bears t.capacity m id k j

  bears-live : (id k j : ℕ) → id < content_range → k < t.count → j < t.capacity → B id k j ≡ true → live t.capacity (used_of t k) m id k j ≡ true
  bears-live id k j n l i b = live-i t.capacity (used_of t k) m id k j
      (omega (arith, A.used k l, bears-used A.holds id k j n l i b)) b

  bears-read : (id k j : ℕ) → id < content_range → k < t.count → j < t.capacity → B id k j ≡ true → reads t id k ≡ true
  bears-read id k j n l i b = same_reads id k l ∙ A.holds.opens id k j n l i b

  meets : (id : ℕ) → id < content_range → TopAt (B id) t.count t.capacity (search_for t m id).met
  unfolding TopAt
  meets id n = go (search_for t m id).met refl
    where
      go : (o : Option Place) → (search_for t m id).met ≡ o → TopAt (B id) t.count t.capacity o
      go None e = record { off = λ k j l i b. (met-none t m id e).nowhere k l (bears-read id k j n l i b) j (bears-live id k j n l i b) }
      go (Some p) e =
          let x = met_some t m id p e in
          let u = live-used t.capacity (used_of t p.server) m id p.server p.entry x.is_live in
          record {
            low = x.below;
            inside = omega (arith, A.used p.server x.below, A.holds.fits p.server);
            on = live-bears t.capacity (used_of t p.server) m id p.server p.entry x.is_live;
            above = λ k j l i b.
                let y = x.top k l (bears-read id k j n l i b) j (bears-live id k j n l i b) in
                record { below = y.0; beside = y.1 };
          }

  pub same_met : (id : ℕ) → id < content_range → (search_for t m id).met ≡ place_of L.events id
  same_met id n = top-same (B id) t.count t.capacity (search_for t m id).met (place_of L.events id) (meets id n) (A.holds.tops id n)
