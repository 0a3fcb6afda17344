-- An added server on both sides.
-- Assumes nothing.
use Prim.Native.Nat.{ℕ, suc, ◌+◌, ◌*◌, ◌≤◌, ◌<◌}
use mathlib.Core.Path.{◌≡◌, refl, sym, ap, ap₂, ◌∙◌}
use mathlib.Core.Logic.{◌≢◌}
use mathlib.Core.Bool.{Bool, true}
use mathlib.Core.List.{List}
use native.Mathlib.Omega.{arith}
use native.Mathlib.Nat.{add-zero}
use lib.ListN.{length}
use lib.Dec.{ltb, eqb}
use borrow.Author.Tests.{ltb-false, eqb-true, eqb-false}
use Rattle.limits.specs.Limits.{content_range}
use Rattle.lists.specs.Below.{nth}
use Rattle.lists.proofs.Tests.{by_bool}
use Rattle.placement.specs.declared.Fraction.{Fraction}
use Rattle.placement.specs.Rule.{write_p, readable}
use Rattle.placement.proofs.Rules.{write_p-cong, readable-cong}
use Rattle.medium.specs.Word.{blank}
use Rattle.medium.specs.Entry.{server_at, entry_at, bears, blank_run}
use Rattle.medium.proofs.Places.{server-le, entry_in, entry-above, server-next}
use Rattle.medium.proofs.Entries.{bears-id, blank-run}
use Rattle.table.specs.declared.Table.{Table}
use Rattle.table.specs.Parts.{weight_of, used_of, read_p}
use Rattle.upkeep.specs.Upkeep.{with_server}
use Rattle.upkeep.proofs.Upkeep.{ServerAdded, with_server-is, with_server-arrays}
use Rattle.table.proofs.Soundness.{sound-facts}
use Rattle.upkeep.proofs.KeptSound.{with_server-sound}
use Rattle.replies.specs.Refusal.{first_of}
use Rattle.replies.proofs.Refusals.{passed, settle-yes, settle-no}
use Rattle.server_rows.specs.ServerRows.{add_server_rows}
use Rattle.servers.specs.Servers.{add_server_reply, add_server_table}
use Rattle.history.specs.Call.{add_server, compared}
use Rattle.history.specs.Ledger.{Event, Ledger, told, used_by, put, add_server_rows_l, with_server_l, rows_of, done_of, enter}
use Rattle.history.proofs.Tops.{top-wider}
use Rattle.history.proofs.Events.{place_of}
use Rattle.history.proofs.Holds.{Holds}
use Rattle.history.proofs.Agree.{Agree, put_other, put_is, Step, settled, same_address}

-- the medium with one server more, whose words lie inside it. Plain numbers and lists.
module _ {capacity count : ℕ} {rule : ℕ → ℕ → Bool} {events : List Event} {m : List ℕ} (H : Holds capacity count rule events m)
    (room : server_at capacity (suc count) ≤ length m) where
  new-blank : (j q : ℕ) → j < capacity → q < 3 → nth m (entry_at capacity count j + q) ≡ blank
  new-blank j q i b = H.rest (entry_at capacity count j + q) (entry-above capacity count j q) (omega (arith, entry_in capacity (suc count) count j q (omega arith) i b))

  not-borne : (id j : ℕ) → id < content_range → j < capacity → bears capacity m id count j ≡ true → ⊥
  not-borne id j n i b = omega (arith, bears-id capacity m id count j b, rw add-zero at (new-blank j 0 i (omega arith)))

  wider-holds : (wider : ℕ → ℕ → Bool) → ((id k : ℕ) → k < count → wider id k ≡ rule id k) → Holds capacity (suc count) wider events m
  wider-holds wider same = record {
    long = room;
    rest = λ a l i. H.rest a (omega (arith, server-le capacity count (suc count) (omega arith))) i;
    free = λ k j q l u i b. by_bool (eqb k count)
        (λ d. rw (eqb-true k count d) (new-blank j q i b))
        (λ d. H.free k j q (omega (arith, eqb-false k count d)) u i b);
    fits = H.fits;
    filled = λ k j l u. by_bool (eqb k count)
        (λ d. absurd (omega (arith, H.none_above k (omega (arith, eqb-true k count d)))))
        (λ d. H.filled k j (omega (arith, eqb-false k count d)) u);
    none_above = λ k l. H.none_above k (omega arith);
    written = H.written;
    opens = λ id k j n l i b. by_bool (eqb k count)
        (λ d. absurd (not-borne id j n i (rw (eqb-true k count d) at b)))
        (λ d.
        let l' : k < count = omega (arith, eqb-false k count d) in
        same id k l' ∙ H.opens id k j n l' i b);
    tops = λ id n. top-wider (bears capacity m id) count capacity (λ j i b. not-borne id j n i b) (place_of events id) (H.tops id n);
  }

module _ {t : Table} {m : List ℕ} {L : Ledger} (A : Agree t m L) (weight : ℕ) where
  -- the new server's words are blank
  blank-server : server_at t.capacity (suc t.count) ≤ length m → blank_run m (server_at t.capacity t.count) (3 * t.capacity) ≡ true
  blank-server room = blank-run m (server_at t.capacity t.count) (3 * t.capacity)
      (λ i l. A.holds.rest (server_at t.capacity t.count + i) (omega arith) (omega (arith, server-next t.capacity t.count)))

  same_rows : first_of (add_server_rows t m weight) ≡ first_of (add_server_rows_l L weight)
  unfolding first_of add_server_rows add_server_rows_l
  same_rows =
      let address = same_address A (suc t.count) (suc L.servers) (ap suc A.count) in
      let e2 = ap (λ (c : ℕ). ltb c weight) A.capacity in
      let e4 = ap (λ (n : ℕ). eqb n 256) A.count in
      let e5 = ap₂ ltb A.words address in
      rw (A.is_sound, e2, e4, e5) (by_bool (ltb L.words (3 * L.capacity * suc L.servers))
      (λ d. rw d)
      (λ d. rw (d, blank-server (omega (arith, address, A.words, ltb-false L.words (3 * L.capacity * suc L.servers) d)))))

  module _ (light : weight ≤ t.capacity) (few : t.count < 256) (room : server_at t.capacity (suc t.count) ≤ length m) where
    abbrev u : Table
    u = with_server t weight

    abbrev weights : ℕ → ℕ
    weights = put L.weight L.servers weight

    abbrev greatest : ℕ → Fraction
    greatest = put L.greatest L.servers (write_p weights L.servers)

    added : ServerAdded t weight u
    added = with_server-is t weight A.arrays few

    -- a server that is not the new one was there
    was-there : (k : ℕ) → k < suc t.count → k ≢ L.servers → k < t.count
    was-there k l n = omega (arith, n, A.count)

    new-weight : (k : ℕ) → k < suc t.count → weight_of u k ≡ weights k
    new-weight k l = put_is L.weight L.servers weight (weight_of u)
        (ap (weight_of u) (sym A.count) ∙ added.weight_new)
        k (λ n. added.weight_old k (was-there k l n) ∙ A.weights k (was-there k l n))

    new-read : (k : ℕ) → k < suc t.count → read_p u k ≡ greatest k
    new-read k l = put_is L.greatest L.servers (write_p weights L.servers) (read_p u)
        (ap (read_p u) (sym A.count) ∙ added.read_new ∙ write_p-cong (weight_of u) weights t.count (λ i a. new-weight i (omega arith)) ∙ ap (write_p weights) A.count)
        k (λ n. added.read_old k (was-there k l n) ∙ A.read_ps k (was-there k l n))

    new-used : (k : ℕ) → k < suc t.count → used_of u k ≡ used_by L.events k
    new-used k l = by_bool (eqb k t.count)
        (λ d. rw (eqb-true k t.count d) (added.used_new ∙ sym (A.holds.none_above t.count (omega arith))))
        (λ d. let i : k < t.count = omega (arith, eqb-false k t.count d) in added.used_old k i ∙ A.used k i)

    agrees : Agree u m (with_server_l L weight)
    unfolding with_server with_server_l
    agrees = record {
      is_sound = with_server-sound t weight A.arrays A.is_sound few light;
      arrays = with_server-arrays t weight A.arrays;
      capacity = A.capacity;
      salt = A.salt;
      count = ap suc A.count;
      weights = new-weight;
      used = new-used;
      read_ps = new-read;
      words = A.words;
      holds = wider-holds A.holds room (readable greatest L.salt)
          (λ id k l. readable-cong greatest L.greatest _ _ id k refl (put_other L.greatest L.servers (write_p weights L.servers) k (λ e. omega (arith, A.count))));
    }

  pub add-server-step : Step (add_server_reply t m weight) (add_server_table t m weight) m (enter L (add_server weight))
  unfolding add_server_reply add_server_table enter rows_of done_of add_server_rows compared
  add-server-step = settled L (add_server_rows t m weight) (add_server_rows_l L weight) same_rows _ _ (add_server_table t m weight) m
      (λ z.
      let a = passed 0 _ _ z in
      let b = passed 1 (ltb t.capacity weight) _ a.1 in
      let c = passed 3 (eqb t.count 256) _ b.1 in
      let d = passed 4 (ltb (length m) (server_at t.capacity (suc t.count))) _ c.1 in
      rw (settle-yes (add_server_rows t m weight) (with_server t weight) t z)
      (record {
        alike = ap (λ (k : ℕ). told 0 k 0 0) A.count;
        agrees = agrees
            (ltb-false t.capacity weight b.0)
            (omega (arith, eqb-false t.count 256 c.0, (sound-facts t A.is_sound).few))
            (ltb-false (length m) (server_at t.capacity (suc t.count)) d.0);
      }))
      (λ f. rw (settle-no (add_server_rows t m weight) (with_server t weight) t f) A)
