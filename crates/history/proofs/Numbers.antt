-- Servers keep their number, from any table and medium; and what an add_server of a list answered is where its server stands.
-- Assumes nothing.
use Prim.Native.Nat.{ℕ, zero, suc, ◌≤◌, ◌<◌}
use mathlib.Core.Path.{◌≡◌, refl, sym, ap, ◌∙◌}
use mathlib.Core.Logic.{◌≢◌}
use mathlib.Core.Bool.{true}
use mathlib.Core.List.{List, [], ◌∷◌}
use native.Mathlib.Omega.{arith}
use lib.ListN.{set}
use lib.Seq.{get_or-set_other}
use borrow.Author.Tests.{eqb-false, not-true}
use Rattle.lists.specs.Below.{nth}
use Rattle.lists.proofs.Tests.{true-not-false, and_l, and_r}
use Rattle.table.specs.declared.Table.{Table}
use Rattle.table.specs.Parts.{weight_of, used_of}
use Rattle.upkeep.specs.Upkeep.{with_server, with_weight, one_more, with_entry, with_opened}
use Rattle.upkeep.proofs.Upkeep.{with_server-is}
use Rattle.replies.specs.Refusal.{first_of}
use Rattle.replies.specs.declared.Reply.{Reply}
use Rattle.replies.proofs.Refusals.{settle-yes, settle-either}
use Rattle.replies.proofs.Answers.{reply-done, reply-number}
use Rattle.lookup.specs.Lookup.{lookup_table}
use Rattle.recovery.specs.Recovery.{with_used, recover_rows, recover_table}
use Rattle.planning.specs.WriteRows.{target, write_rows}
use Rattle.writing.specs.Writing.{write_table}
use Rattle.server_rows.specs.ServerRows.{start_rows, add_server_rows, reweight_rows}
use Rattle.server_rows.proofs.Accepted.{add_server-accepted}
use Rattle.servers.specs.Servers.{add_server_reply, add_server_table, reweight_table}
use Rattle.batch.specs.Batch.{batch_table}
use Rattle.history.specs.Call.{Call, add_server, reweight, write, delete, lookup, batch, Turn, plain, crashed_write, crashed_delete}
use Rattle.history.specs.Machine.{State, reply, next, crash_write, crash_delete, recovered, turned, after_turns, begin}
use Rattle.history.specs.Ledger.{fresh_ledger}
use Rattle.history.specs.Numbers.{leaves_weight, weight_left, nothing_crashes, SameServer, Added}
use Rattle.history.proofs.Run.{begin-agrees, run}

-- a number of a list that is set to no less does not fall
set_more : (xs : List ℕ) (i x : ℕ) → nth xs i ≤ x → (k : ℕ) → nth xs k ≤ nth (set xs i x) k
set_more [] i x h k = omega arith
set_more (y ∷ xs) zero x h zero = h
set_more (y ∷ xs) zero x h (suc k) = omega arith
set_more (y ∷ xs) (suc i) x h zero = omega arith
set_more (y ∷ xs) (suc i) x h (suc k) = set_more xs i x h k

-- the tables that a call makes of a table
module _ (t : Table) (k : ℕ) (l : k < t.count) where
  -- table u has server k of t, with the weight of t if it is `left`
  record Has (left : Type 0) (u : Table) : Type 0 where
    there : k < u.count
    capacity : u.capacity ≡ t.capacity
    salt : u.salt ≡ t.salt
    used : used_of t k ≤ used_of u k
    weight : left → weight_of u k ≡ weight_of t k

  -- all of that but for its used
  record Stays (u : Table) : Type 0 where
    there : k < u.count
    capacity : u.capacity ≡ t.capacity
    salt : u.salt ≡ t.salt
    weight : weight_of u k ≡ weight_of t k

  itself : (left : Type 0) → Has left t
  itself left = record { there = l; capacity = refl; salt = refl; used = omega arith; weight = λ _. refl }

  server-added : (weight : ℕ) → Has (Unit {0}) (with_server t weight)
  unfolding with_server
  server-added weight = record {
    there = omega arith;
    capacity = refl;
    salt = refl;
    used = omega (arith, get_or-set_other t.used t.count k 0 0 (λ e. omega arith));
    weight = λ _. get_or-set_other t.weights t.count k weight 0 (λ e. omega arith);
  }

  weight-changed : (server weight : ℕ) → Has (k ≢ server) (with_weight t server weight)
  unfolding with_weight
  weight-changed server weight = record {
    there = l;
    capacity = refl;
    salt = refl;
    used = omega arith;
    weight = λ d. get_or-set_other t.weights server k weight 0 d;
  }

  entry-added : (server : ℕ) → Has (Unit {0}) (with_entry t server)
  unfolding with_entry one_more
  entry-added server = record {
    there = l;
    capacity = refl;
    salt = refl;
    used = set_more t.used server _ (omega arith) k;
    weight = λ _. refl;
  }

  servers-opened : (tenant opened : ℕ) → Has (Unit {0}) (with_opened t tenant opened)
  unfolding with_opened
  servers-opened tenant opened = record { there = l; capacity = refl; salt = refl; used = omega arith; weight = λ _. refl }

  -- a recover, whatever the words
  recounted : (f : ℕ → ℕ) → Stays (with_used t f)
  unfolding with_used
  recounted f = record { there = l; capacity = refl; salt = refl; weight = refl }

-- server k after one call
record Kept (S : State) (c : Call) (k : ℕ) : Type 0 where
  there : k < (next S c).table.count
  capacity : (next S c).table.capacity ≡ S.table.capacity
  salt : (next S c).table.salt ≡ S.table.salt
  used : used_of S.table k ≤ used_of (next S c).table k
  weight : leaves_weight k c ≡ true → weight_of (next S c).table k ≡ weight_of S.table k

-- by the table that it leaves
kept_by : (S : State) (c : Call) (k : ℕ) (l : k < S.table.count) (left : Type 0) → (leaves_weight k c ≡ true → left) → Has S.table k l left (next S c).table
    → Kept S c k
kept_by S c k l left f h = record { there = h.there; capacity = h.capacity; salt = h.salt; used = h.used; weight = λ e. h.weight (f e) }

next-same : (S : State) (c : Call) (k : ℕ) → k < S.table.count → Kept S c k
unfolding next leaves_weight add_server_table reweight_table write_table lookup_table batch_table
next-same S (add_server weight) k l = kept_by S (add_server weight) k l (Unit {0}) (λ _. tt)
    (settle-either (add_server_rows S.table S.medium weight) _ S.table (Has S.table k l (Unit {0}))
    (λ _. server-added S.table k l weight) (itself S.table k l (Unit {0})))
next-same S (reweight server weight) k l = kept_by S (reweight server weight) k l (k ≢ server)
    (λ e d. eqb-false server k (not-true _ e) (sym d))
    (settle-either (reweight_rows S.table server weight) _ S.table (Has S.table k l (k ≢ server))
    (λ _. weight-changed S.table k l server weight) (itself S.table k l (k ≢ server)))
next-same S (write tenant id value) k l = kept_by S (write tenant id value) k l (Unit {0}) (λ _. tt)
    (settle-either (write_rows S.table S.medium tenant id value) _ S.table (Has S.table k l (Unit {0}))
    (λ _. entry-added S.table k l (target S.table id)) (itself S.table k l (Unit {0})))
next-same S (delete tenant id) k l = kept_by S (delete tenant id) k l (Unit {0}) (λ _. tt) (itself S.table k l (Unit {0}))
next-same S (lookup tenant id) k l = kept_by S (lookup tenant id) k l (Unit {0}) (λ _. tt) (servers-opened S.table k l tenant _)
next-same S (batch tenant ids) k l = kept_by S (batch tenant ids) k l (Unit {0}) (λ _. tt) (servers-opened S.table k l tenant _)

recover-stays : (t : Table) (m : List ℕ) (k : ℕ) (l : k < t.count) → Stays t k l (recover_table t m)
unfolding recover_table
recover-stays t m k l = settle-either (recover_rows t m) _ t (Stays t k l) (λ _. recounted t k l _) (record { there = l; capacity = refl; salt = refl; weight = refl })

-- a crashed call and more turns
after-crash : (S R : State) (x : Turn) (turns : List Turn) (k : ℕ) (l : k < S.table.count) → Stays S.table k l R.table
    → (nothing_crashes (x ∷ turns) ≡ true → ⊥) → weight_left k (x ∷ turns) ≡ weight_left k turns
    → (later : State) → SameServer R later turns k → SameServer S later (x ∷ turns) k
after-crash S R x turns k l a f w later b = record {
  there = b.there;
  capacity = b.capacity ∙ a.capacity;
  salt = b.salt ∙ a.salt;
  used = λ e. absurd (f e);
  weight = λ e. b.weight (sym w ∙ e) ∙ a.weight;
}

-- a list of turns, whatever the table and the medium hold
pub servers-keep-their-number : (turns : List Turn) (S : State) (k : ℕ) → k < S.table.count → SameServer S (after_turns S turns) turns k
unfolding turned recovered crash_write crash_delete after_turns nothing_crashes weight_left
servers-keep-their-number [] S k l = record { there = l; capacity = refl; salt = refl; used = λ _. omega arith; weight = λ _. refl }
servers-keep-their-number (plain c ∷ turns) S k l =
    let a = next-same S c k l in
    let b = servers-keep-their-number turns (next S c) k a.there in
    record {
      there = b.there;
      capacity = b.capacity ∙ a.capacity;
      salt = b.salt ∙ a.salt;
      used = λ e. omega (arith, a.used, b.used e);
      weight = λ e. b.weight (and_r (leaves_weight k c) (weight_left k turns) e) ∙ a.weight (and_l (leaves_weight k c) (weight_left k turns) e);
    }
servers-keep-their-number (crashed_write tenant id value n beam ∷ turns) S k l =
    let R = turned S (crashed_write tenant id value n beam) in
    let a : Stays S.table k l R.table = recover-stays S.table R.medium k l in
    after-crash S R (crashed_write tenant id value n beam) turns k l a (λ e. true-not-false e refl) refl (after_turns R turns) (servers-keep-their-number turns R k a.there)
servers-keep-their-number (crashed_delete tenant id n beam ∷ turns) S k l =
    let R = turned S (crashed_delete tenant id n beam) in
    let a : Stays S.table k l R.table = recover-stays S.table R.medium k l in
    after-crash S R (crashed_delete tenant id n beam) turns k l a (λ e. true-not-false e refl) refl (after_turns R turns) (servers-keep-their-number turns R k a.there)

-- and the server of an accepted add_server of a list
pub server-numbered : (capacity salt n : ℕ) → first_of (start_rows capacity salt) ≡ 0 → (before : List Turn) (weight : ℕ)
    → let S = after_turns (begin capacity salt n) before in
    (reply S (add_server weight)).refusal ≡ 0 → Added S weight
unfolding reply next add_server_reply add_server_table
server-numbered capacity salt n z before weight e =
    let S = after_turns (begin capacity salt n) before in
    let t = S.table in
    let rows = add_server_rows t S.medium weight in
    let A = (run before (begin capacity salt n) (fresh_ledger capacity salt n) (begin-agrees capacity salt n z)).agrees in
    let y : first_of rows ≡ 0 = sym (reply-number rows _ refl) ∙ e in
    let w = with_server-is t weight A.arrays (add_server-accepted t S.medium weight y).few in
    let table : add_server_table t S.medium weight ≡ with_server t weight = settle-yes rows _ t y in
    let number : (add_server_reply t S.medium weight).server ≡ t.count = ap (λ (r : Reply). r.server) (reply-done rows y _) in
    record {
      number = number;
      there = omega (arith, w.count, number, ap (λ (u : Table). u.count) table);
      has_weight = ap (λ (u : Table). weight_of u (add_server_reply t S.medium weight).server) table ∙ ap (weight_of (with_server t weight)) number ∙ w.weight_new;
    }
