-- Document 01's worked example, over every medium that holds its three servers: it is computed over 36 words, and words after
-- these have no bearing on its calls.
-- Assumes nothing.
use Prim.Native.Nat.{ℕ, suc, ◌+◌, ◌-◌, ◌≤◌}
use mathlib.Core.Path.{◌≡◌, refl, sym, ap, ap₂, ◌∙◌}
use mathlib.Core.Bool.{Bool, true, false, ◌&&◌}
use mathlib.Core.List.{List, [], ◌∷◌, ◌++◌, map}
use native.Mathlib.Omega.{arith}
use lib.ListN.{length, length-set, length-append, set, replicate, replicate-append-replicate}
use lib.Seq.{set-append_left}
use lib.Dec.{leb, ltb}
use borrow.Author.Tests.{ltb-true, ltb-false, le-ltb}
use Rattle.limits.specs.Limits.{content_range}
use Rattle.lists.specs.Below.{nth, all_below, highest, or_zero, upward, count_below, total, set_below}
use Rattle.lists.proofs.Tests.{and_l, and_r}
use Rattle.tenants.specs.Tenant.{tenant_of, out_of_range, of_another}
use Rattle.draws.specs.Draw.{step_of, nonzero, seed_of, xor_left, xor_right, round_of, draw_of}
use Rattle.placement.specs.Fraction.{exceeds, at_least, raise}
use Rattle.placement.specs.Rule.{share_of, write_p, takes, pick, write_server, readable}
use Rattle.medium.specs.Word.{blank, deleted}
use Rattle.medium.specs.Entry.{server_at, server_words, entry_at, bears_at, live, blank_run}
use Rattle.medium.specs.Burn.{Burn, burn_all, marks_on, marks_over, invalidations}
use Rattle.table.specs.declared.Table.{Table}
use Rattle.table.specs.Sound.{in_range, read_sound, server_sound, sound}
use Rattle.upkeep.specs.Upkeep.{with_server, with_weight, one_more, with_entry, with_opened}
use Rattle.counters.specs.Counter.{grown, counted, in_bounds}
use Rattle.replies.specs.Refusal.{Row, ◌when◌, first_of, settle}
use Rattle.replies.specs.Reply.{refused, found, reply_by}
use Rattle.replies.specs.declared.Reply.{Reply}
use Rattle.replies.proofs.Refusals.{settle-both}
use Rattle.search.specs.Search.{last_live, opening, search_below, search_for}
use Rattle.checks.specs.Ready.{short, ready_rows, asked_rows}
use Rattle.lookup.specs.Lookup.{lookup_rows, met_reply, lookup_reply, lookup_table}
use Rattle.deletion.specs.Deletion.{is_met, delete_rows, delete_marks, delete_reply, delete_medium}
use Rattle.planning.specs.WriteRows.{target, entry_rows, write_rows}
use Rattle.writing.specs.Writing.{write_marks, write_burns, write_reply, write_table, write_medium}
use Rattle.server_rows.specs.ServerRows.{start_rows, add_server_rows, reweight_rows}
use Rattle.servers.specs.Servers.{start_table, add_server_reply, add_server_table, reweight_reply, reweight_table}
use Rattle.history.specs.Call.{Call, add_server, reweight, write, delete, lookup, compared}
use Rattle.history.specs.Machine.{State, reply, next, turned, after_turns, turn_replies, after, replies, begin}
use Rattle.history.specs.Example.{calls, expected, counters, Example}
use Rattle.history.specs.Ledger.{fresh_ledger}
use Rattle.history.proofs.Run.{begin-agrees, run-calls}

-- a state by its two parts
abbrev state : Table → List ℕ → State
state t m = record { table = t; medium = m }

-- what a call finds in a medium: an add_server blank words, a lookup its answer, a write a free entry and the marks that it
-- burns, a delete an entry and the marks
abbrev NewBlank : Table → List ℕ → Type 0
NewBlank t m = blank_run m (server_at t.capacity t.count) (server_words t.capacity) ≡ true

abbrev Looks : Table → ℕ → Reply → List ℕ → Type 0
Looks t id x m = let s = search_for t m id in met_reply t.capacity m (length s.opened) s.met ≡ x

abbrev Enters : Table → ℕ → List ℕ → List ℕ → Type 0
Enters t id marks m = (entry_rows t m id ≡ 6 when false ∷ 7 when false ∷ []) × (write_marks t m id ≡ marks)

abbrev Deletes : Table → ℕ → List ℕ → List ℕ → Type 0
Deletes t id marks m = (is_met (search_for t m id).met ≡ true) × (delete_marks t m id ≡ marks)

-- burns below an address
unfoldable below : ℕ → List Burn → Bool
below n [] = true
below n (b ∷ burns) = ltb b.address n && below n burns

-- calls say and leave the same with these words after the medium
module _ (rest : List ℕ) where
  record Alike (t : Table) (m : List ℕ) (cs : List Call) : Type 0 where
    said : replies (state t (m ++ rest)) cs ≡ replies (state t m) cs
    left : (after (state t (m ++ rest)) cs).medium ≡ (after (state t m) cs).medium ++ rest
    table : (after (state t (m ++ rest)) cs).table ≡ (after (state t m) cs).table

  no-calls : {t : Table} {m : List ℕ} → Alike t m []
  unfolding turn_replies turned after_turns
  no-calls = record { said = refl; left = refl; table = refl }

  one-call : {t u : Table} {m w : List ℕ} {c : Call} {cs : List Call} → reply (state t (m ++ rest)) c ≡ reply (state t m) c
      → next (state t (m ++ rest)) c ≡ state (next (state t m) c).table ((next (state t m) c).medium ++ rest)
      → next (state t m) c ≡ state u w
      → Alike u w cs → Alike t m (c ∷ cs)
  unfolding turn_replies turned after_turns
  one-call {t} {u} {m} {w} {c} {cs} r n e s =
      let f : next (state t (m ++ rest)) c ≡ state u (w ++ rest) = n ∙ ap (λ (S : State). state S.table (S.medium ++ rest)) e in
      record {
        said = ap₂ (λ (x : Reply) (l : List Reply). x ∷ l) r (ap (λ (S : State). replies S cs) f ∙ s.said ∙ ap (λ (S : State). replies S cs) (sym e));
        left = ap (λ (S : State). (after S cs).medium) f ∙ s.left ∙ ap (λ (S : State). (after S cs).medium ++ rest) (sym e);
        table = ap (λ (S : State). (after S cs).table) f ∙ s.table ∙ ap (λ (S : State). (after S cs).table) (sym e);
      }

  long-enough : (m : List ℕ) (n : ℕ) → ltb (length m) n ≡ false → ltb (length (m ++ rest)) n ≡ ltb (length m) n
  long-enough m n e = le-ltb (length (m ++ rest)) n (omega (arith, length-append m rest, ltb-false (length m) n e)) ∙ sym e

  asked : (t : Table) (m : List ℕ) (tenant id : ℕ) (outside : Bool) → short t m ≡ false → asked_rows t (m ++ rest) tenant id outside ≡ asked_rows t m tenant id outside
  unfolding asked_rows ready_rows short
  asked t m tenant id outside e = rw (long-enough m (server_at t.capacity t.count) e)

  -- burns inside the medium
  burn-before : (m : List ℕ) (burns : List Burn) → below (length m) burns ≡ true → burn_all (m ++ rest) burns ≡ burn_all m burns ++ rest
  unfolding burn_all below
  burn-before m [] e = refl
  burn-before m (b ∷ burns) e =
      let i = ltb-true b.address (length m) (and_l (ltb b.address (length m)) (below (length m) burns) e) in
      rw (set-append_left m rest b.address b.word i)
      (burn-before (set m b.address b.word) burns (rw (length-set m b.address b.word) (and_r (ltb b.address (length m)) (below (length m) burns) e)))

  burned : (rows : List Row) (m : List ℕ) (burns : List Burn) → below (length m) burns ≡ true
      → settle rows (burn_all (m ++ rest) burns) (m ++ rest) ≡ settle rows (burn_all m burns) m ++ rest
  burned rows m burns e = settle-both rows rows refl (λ x y. x ≡ y ++ rest) _ _ _ _ (λ _. burn-before m burns e) refl

  -- a call of each kind, which finds the same in both media and leaves the state with u and w
  module _ (t : Table) (m : List ℕ) (u : Table) (w : List ℕ) {cs : List Call} where
    add-server : (weight : ℕ) → ltb (length m) (server_at t.capacity (suc t.count)) ≡ false → NewBlank t m → NewBlank t (m ++ rest)
        → next (state t m) (add_server weight) ≡ state u w → Alike u w cs → Alike t m (add_server weight ∷ cs)
    unfolding reply next add_server_reply add_server_table add_server_rows
    add-server weight e a b = let l = long-enough m (server_at t.capacity (suc t.count)) e in one-call (rw (l, a, b)) (rw (l, a, b))

    re-weight : (server weight : ℕ) → next (state t m) (reweight server weight) ≡ state u w → Alike u w cs → Alike t m (reweight server weight ∷ cs)
    unfolding reply next
    re-weight server weight = one-call refl refl

    write-one : (tenant id value : ℕ) (marks : List ℕ) → short t m ≡ false → Enters t id marks m → Enters t id marks (m ++ rest) → below (length m) (write_burns t m id value) ≡ true
        → next (state t m) (write tenant id value) ≡ state u w → Alike u w cs → Alike t m (write tenant id value ∷ cs)
    unfolding reply next write_reply write_table write_medium write_rows write_burns
    write-one tenant id value marks e a b i =
        let r = asked t m tenant id (leb content_range value) e in
        one-call (rw (r, a.0, a.1, b.0, b.1)) (ap₂ state (rw (r, a.0, b.0)) (rw (r, a.0, a.1, b.0, b.1) (burned _ m _ (rw a.1 at i))))

    delete-one : (tenant id : ℕ) (marks : List ℕ) → short t m ≡ false → Deletes t id marks m → Deletes t id marks (m ++ rest) → below (length m) (invalidations deleted marks) ≡ true
        → next (state t m) (delete tenant id) ≡ state u w → Alike u w cs → Alike t m (delete tenant id ∷ cs)
    unfolding reply next delete_reply delete_medium delete_rows
    delete-one tenant id marks e a b i =
        let r = asked t m tenant id false e in
        one-call (rw (r, a.0, a.1, b.0, b.1)) (ap (state t) (rw (r, a.0, a.1, b.0, b.1) (burned _ m _ i)))

    look_up : (tenant id : ℕ) (x : Reply) → short t m ≡ false → Looks t id x m → Looks t id x (m ++ rest)
        → next (state t m) (lookup tenant id) ≡ state u w → Alike u w cs → Alike t m (lookup tenant id ∷ cs)
    unfolding reply next lookup_reply lookup_table lookup_rows
    look_up tenant id x e a b = let r = asked t m tenant id false e in one-call (rw (r, a, b)) (rw (r, a, b))

-- the tables and the media of the example over 36 words, each by the number of calls before it
abbrev T0 : Table
T0 = start_table 4 0

abbrev T1 : Table
T1 = with_server T0 1

abbrev T2 : Table
T2 = with_server T1 0

abbrev T3 : Table
T3 = with_server T2 2

abbrev T4 : Table
T4 = with_entry T3 2

abbrev T5 : Table
T5 = with_opened T4 4 1

abbrev T6 : Table
T6 = with_weight T5 0 2

abbrev T7 : Table
T7 = with_entry T6 0

abbrev T8 : Table
T8 = with_opened T7 4 2

abbrev T10 : Table
T10 = with_opened T8 4 2

abbrev M0 : List ℕ
M0 = replicate 36 blank

abbrev M4 : List ℕ
M4 = set (set M0 25 1073742324) 24 626627286

abbrev M7 : List ℕ
M7 = set (set (set M4 1 1073742564) 0 626627286) 26 2147483649

abbrev M9 : List ℕ
M9 = set M7 2 2147483650

-- the example over 36 words, and that words after these have no bearing on it
record Over36 : Type 0 where
  accepted : first_of (start_rows 4 0) ≡ 0
  said : replies (begin 4 0 36) calls ≡ expected
  left : (after (begin 4 0 36) calls).medium ≡ M9
  counted : (after (begin 4 0 36) calls).table.counters ≡ counters
  longer : (rest : List ℕ) → Alike rest T0 M0 calls

over-36 : Over36
unfolding calls expected counters below all_below highest or_zero upward count_below total set_below step_of nonzero seed_of xor_left xor_right round_of draw_of exceeds at_least raise share_of write_p takes pick write_server readable server_at entry_at bears_at live blank_run burn_all marks_on marks_over invalidations in_range read_sound server_sound sound in_bounds grown counted with_server with_weight one_more with_entry with_opened first_of settle reply_by last_live opening search_below search_for start_rows start_table add_server_rows add_server_reply add_server_table reweight_rows reweight_reply reweight_table short ready_rows asked_rows tenant_of out_of_range of_another target entry_rows write_rows write_marks write_burns write_reply write_table write_medium is_met delete_rows delete_marks delete_reply delete_medium lookup_rows met_reply lookup_reply lookup_table reply next turned after_turns turn_replies begin
over-36 = record {
  accepted = refl;
  said = refl;
  left = refl;
  counted = refl;
  longer = λ rest.
      add-server rest T0 M0 T1 M0 1 refl refl refl refl
      (add-server rest T1 M0 T2 M0 0 refl refl refl refl
      (add-server rest T2 M0 T3 M0 2 refl refl refl refl
      (write-one rest T3 M0 T4 M4 4 626627286 500 [] refl (refl, refl) (refl, refl) refl refl
      (look_up rest T4 M4 T5 M4 4 626627286 (found 500 1) refl refl refl refl
      (re-weight rest T5 M4 T6 M4 0 2 refl
      (write-one rest T6 M4 T7 M7 4 626627286 740 (26 ∷ []) refl (refl, refl) (refl, refl) refl refl
      (look_up rest T7 M7 T8 M7 4 626627286 (found 740 2) refl refl refl refl
      (delete-one rest T8 M7 T8 M9 4 626627286 (2 ∷ []) refl (refl, refl) (refl, refl) refl refl
      (look_up rest T8 M9 T10 M9 4 626627286 (refused 8 2) refl refl refl refl
      (no-calls rest))))))))));
}

-- any number of blank words from 36 on is 36 of them and the rest
blank-words : (n : ℕ) → 36 ≤ n → replicate n blank ≡ M0 ++ replicate (n - 36) blank
blank-words n h =
    let e : n ≡ 36 + (n - 36) = omega arith in
    ap (λ (k : ℕ). replicate k blank) e ∙ sym (replicate-append-replicate 36 (n - 36) blank)

pub example : (n : ℕ) → 36 ≤ n → Example n
unfolding begin
example n h =
    let rest = replicate (n - 36) blank in
    let e = ap (state T0) (blank-words n h) in
    let a = over-36.longer rest in
    let machine : replies (begin 4 0 n) calls ≡ expected = ap (λ (S : State). replies S calls) e ∙ a.said ∙ over-36.said in
    let left : (after (begin 4 0 n) calls).medium ≡ M9 ++ replicate (n - 36) blank =
    ap (λ (S : State). (after S calls).medium) e ∙ a.left ∙ ap (λ (m : List ℕ). m ++ replicate (n - 36) blank) over-36.left in
    record {
      machine = machine;
      ledger =
          sym (run-calls calls (begin 4 0 n) (fresh_ledger 4 0 n) (begin-agrees 4 0 n over-36.accepted)).alike
          ∙ ap (map compared) machine;
      counted = ap (λ (S : State). (after S calls).table.counters) e ∙ ap (λ (t : Table). t.counters) a.table ∙ over-36.counted;
      word24 = ap (λ (m : List ℕ). nth m 24) left;
      word25 = ap (λ (m : List ℕ). nth m 25) left;
      word26 = ap (λ (m : List ℕ). nth m 26) left;
    }
