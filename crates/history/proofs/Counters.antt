-- The counters over every list of turns, from any table and medium; what a refused call changes; and that no call answers by a
-- counter.
-- Assumes nothing.
use Prim.Native.Nat.{ℕ, ◌<◌}
use mathlib.Core.Path.{◌≡◌, refl, sym, ap, ap₂, ◌∙◌, subst}
use mathlib.Core.Logic.{◌≢◌}
use mathlib.Core.Bool.{cond}
use mathlib.Core.List.{List, [], ◌∷◌}
use native.Mathlib.Omega.{arith}
use lib.ListN.{length}
use lib.Dec.{eqb}
use borrow.Author.Tests.{eqb-true, eqb-false}
use Rattle.limits.specs.Limits.{tenants}
use Rattle.lists.specs.Below.{nth}
use Rattle.lists.proofs.Tests.{by_bool}
use Rattle.lists.proofs.Below.{nth-zeros}
use Rattle.counters.specs.Counter.{grown, counted, in_bounds}
use Rattle.counters.proofs.Counters.{grown-none, grown-twice, grown-fresh, counted-long, counted-own, counted-other, counted-bounds}
use Rattle.table.specs.declared.Table.{Table}
use Rattle.table.specs.Parts.{empty, with_counters, opened_of}
use Rattle.table.proofs.Soundness.{sound-facts}
use Rattle.upkeep.specs.Upkeep.{with_opened}
use Rattle.replies.specs.Refusal.{Row, first_of}
use Rattle.replies.specs.declared.Reply.{Reply}
use Rattle.replies.specs.Reply.{reply_by}
use Rattle.replies.proofs.Refusals.{settle-yes, settle-no, settle-either}
use Rattle.replies.proofs.Answers.{reply-done}
use Rattle.lookup.specs.Lookup.{lookup_table}
use Rattle.lookup.proofs.Counting.{opened-none}
use Rattle.deletion.specs.Deletion.{delete_rows, delete_reply, delete_medium}
use Rattle.planning.specs.WriteRows.{write_rows}
use Rattle.writing.specs.Writing.{write_reply, write_table, write_medium}
use Rattle.server_rows.specs.ServerRows.{start_rows, add_server_rows, reweight_rows}
use Rattle.servers.specs.Servers.{start_table, add_server_reply, add_server_table, reweight_reply, reweight_table}
use Rattle.batch_answer.specs.Answer.{BatchReply, batch_by, settled_batch}
use Rattle.batch.specs.Batch.{batch_rows, batch_reply, batch_table}
use Rattle.batch.proofs.Counting.{batch-left}
use Rattle.recovery.specs.Recovery.{recover_table}
use Rattle.archive.proofs.Counters.{agree, alike, recover-counters, recover-apart, add_server-counters, reweight-counters, write-counters, add_server-apart, reweight-apart, write-apart, add_server-unread, reweight-unread, write-unread, delete-unread, lookup-unread, batch-unread}
use Rattle.history.specs.Call.{Call, add_server, reweight, write, delete, lookup, batch, Turn, plain, crashed_write, crashed_delete}
use Rattle.history.specs.Machine.{State, in_brief, reply, next, crash_write, crash_delete, recovered, turned, after_turns, turn_replies, start_state}
use Rattle.history.specs.Counters.{opened_to, opened_in_turn, opened_by, Counters, left_by, Refused, Apart, Answered, Unread}
use Rattle.history.proofs.CrashAlike.{same-crash-write, same-crash-delete}

-- one call: a tenant's counter grows by what it is answered
module _ (tenant : ℕ) where
  -- the counter with nothing opened, where the counters are as lent
  left-as-lent : (counters counters' : List ℕ) → counters' ≡ counters → nth counters' tenant ≡ grown (nth counters tenant) 0
  left-as-lent counters counters' e = ap (λ (l : List ℕ). nth l tenant) e ∙ sym (grown-none (nth counters tenant))

  -- and with servers opened for a caller, who may be the tenant
  opened-for : (counters : List ℕ) (caller opened : ℕ) → tenant < length counters → nth (counted counters caller opened) tenant ≡ grown (nth counters tenant) (cond (eqb caller tenant) opened 0)
  opened-for counters caller opened l = by_bool (eqb caller tenant)
      (λ d.
      let e = eqb-true caller tenant d in
      rw (d, e) (counted-own counters tenant opened l))
      (λ d. rw (d, grown-none) (counted-other counters caller opened tenant (λ e. eqb-false caller tenant d (sym e))))

  next-counter : (S : State) (c : Call) → tenant < length S.table.counters → opened_of (next S c).table tenant ≡ grown (opened_of S.table tenant) (opened_to tenant S c)
  unfolding next opened_to lookup_table batch_table with_opened
  next-counter S (add_server weight) l = left-as-lent _ _ (add_server-counters S.table S.medium weight)
  next-counter S (reweight server weight) l = left-as-lent _ _ (reweight-counters S.table S.medium server weight)
  next-counter S (write caller id value) l = left-as-lent _ _ (write-counters S.table S.medium caller id value)
  next-counter S (delete caller id) l = left-as-lent S.table.counters S.table.counters refl
  next-counter S (lookup caller id) l = opened-for S.table.counters caller _ l
  next-counter S (batch caller ids) l = opened-for S.table.counters caller _ l

next-long : (S : State) (c : Call) → length (next S c).table.counters ≡ length S.table.counters
unfolding next lookup_table batch_table with_opened
next-long S (add_server weight) = ap length (add_server-counters S.table S.medium weight)
next-long S (reweight server weight) = ap length (reweight-counters S.table S.medium server weight)
next-long S (write caller id value) = ap length (write-counters S.table S.medium caller id value)
next-long S (delete caller id) = refl
next-long S (lookup caller id) = counted-long S.table.counters caller _
next-long S (batch caller ids) = counted-long S.table.counters caller _

-- a turn: recover leaves the counters, and so does what crashed before it
turn-counters : (S : State) (x : Turn) (tenant : ℕ) → tenant < length S.table.counters
    → opened_of (turned S x).table tenant ≡ grown (opened_of S.table tenant) (opened_in_turn tenant S x)
unfolding turned recovered crash_write crash_delete opened_in_turn
turn-counters S (plain c) tenant l = next-counter tenant S c l
turn-counters S (crashed_write caller id value n beam) tenant l = left-as-lent tenant S.table.counters _ (recover-counters S.table _)
turn-counters S (crashed_delete caller id n beam) tenant l = left-as-lent tenant S.table.counters _ (recover-counters S.table _)

turn-long : (S : State) (x : Turn) → length (turned S x).table.counters ≡ length S.table.counters
unfolding turned recovered crash_write crash_delete
turn-long S (plain c) = next-long S c
turn-long S (crashed_write caller id value n beam) = ap length (recover-counters S.table _)
turn-long S (crashed_delete caller id n beam) = ap length (recover-counters S.table _)

-- every list, whatever the table and the medium hold: each step stops at the bound, and so does the sum
pub after-counter : (tenant : ℕ) (turns : List Turn) (S : State) → tenant < length S.table.counters
    → opened_of (after_turns S turns).table tenant ≡ grown (opened_of S.table tenant) (opened_by tenant S turns)
unfolding after_turns opened_by
after-counter tenant [] S l = sym (grown-none (opened_of S.table tenant))
after-counter tenant (x ∷ turns) S l =
    after-counter tenant turns (turned S x) (omega (arith, turn-long S x))
    ∙ ap (λ (n : ℕ). grown n (opened_by tenant (turned S x) turns)) (turn-counters S x tenant l)
    ∙ grown-twice (opened_of S.table tenant) (opened_in_turn tenant S x) (opened_by tenant (turned S x) turns)

-- a started table has zeros
start-zero : (capacity salt tenant : ℕ) → tenant < tenants → (length (start_table capacity salt).counters ≡ tenants) × (opened_of (start_table capacity salt) tenant ≡ 0)
unfolding start_table
start-zero capacity salt tenant l = settle-either (start_rows capacity salt) (empty capacity salt) (empty 0 0) (λ (t : Table). (length t.counters ≡ tenants) × (opened_of t tenant ≡ 0))
    (λ _. (refl, nth-zeros tenants tenant))
    (refl, nth-zeros tenants tenant)

pub counters : (capacity salt : ℕ) (m : List ℕ) (turns : List Turn) → Counters capacity salt m turns
counters capacity salt m turns = record {
  counter = λ tenant l.
      let S = start_state capacity salt m in
      let z = start-zero capacity salt tenant l in
      after-counter tenant turns S (omega (arith, z.0))
      ∙ ap (λ (n : ℕ). grown n (opened_by tenant S turns)) z.1
      ∙ grown-fresh (opened_by tenant S turns);
}

-- a batch that is not refused as a whole
answered : (t : Table) (m : List ℕ) (caller : ℕ) (ids : List ℕ) → (batch_reply t m caller ids).refusal ≢ 0 → first_of (batch_rows t ids) ≢ 0
unfolding batch_reply settled_batch batch_by
answered t m caller ids n z = n (ap (λ (b : BatchReply). b.refusal) (settle-yes (batch_rows t ids) _ _ z))

-- a refused call: its rows refuse it, where what it would reply is no refusal
by_rows : (rows : List Row) (done r : Reply) → r ≡ reply_by rows done → done.refusal ≡ 0 → r.refusal ≢ 0 → first_of rows ≢ 0
by_rows rows done r e d n z = n (ap (λ (x : Reply). x.refusal) (e ∙ reply-done rows z done) ∙ d)

-- its table is as lent, but for what a lookup opened
abbrev Left : State → Call → Type 0
Left S c =
    ((next S c).medium ≡ S.medium)
    × ((reply S c).opened ≡ 0 → (next S c).table ≡ S.table)
    × (with_counters (next S c).table S.table.counters ≡ S.table)
    × ((next S c).table ≡ left_by S c)

whole : (S : State) (c : Call) → (next S c).medium ≡ S.medium → (next S c).table ≡ S.table → left_by S c ≡ S.table → Left S c
whole S c e f g = (e, λ _. f, ap (λ (t : Table). with_counters t S.table.counters) f, f ∙ sym g)

left : (S : State) (c : Call) → (reply S c).refusal ≢ 0 → Left S c
unfolding reply next left_by add_server_reply add_server_table reweight_reply reweight_table write_reply write_table write_medium delete_reply delete_medium lookup_table with_opened
left S (add_server weight) n = whole S (add_server weight) refl (settle-no (add_server_rows S.table S.medium weight) _ _ (by_rows _ _ _ refl refl n)) refl
left S (reweight server weight) n = whole S (reweight server weight) refl (settle-no (reweight_rows S.table server weight) _ _ (by_rows _ _ _ refl refl n)) refl
left S (write caller id value) n =
    let f = by_rows (write_rows S.table S.medium caller id value) _ _ refl refl n in
    whole S (write caller id value) (settle-no _ _ _ f) (settle-no _ _ _ f) refl
left S (delete caller id) n = whole S (delete caller id) (settle-no (delete_rows S.table S.medium caller id) _ _ (by_rows _ _ _ refl refl n)) refl refl
left S (lookup caller id) n = (refl, λ z. ap (with_opened S.table caller) z ∙ opened-none S.table caller, refl, refl)
left S (batch caller ids) n = whole S (batch caller ids) refl (batch-left S.table S.medium caller ids (answered S.table S.medium caller ids n)) refl

pub refused-keeps : (S : State) (c : Call) → Refused S c
refused-keeps S c = record {
  medium = λ n. (left S c n).0;
  table = λ n. (left S c n).1;
  others = λ n. (left S c n).2;
  exact = λ n. (left S c n).3;
}

-- a state with other counters
abbrev with-counters : State → List ℕ → State
with-counters S counters = record { table = with_counters S.table counters; medium = S.medium }

-- states that differ in the counters alone, both within their bounds or neither
record Beside (S T : State) : Type 0 where
  apart : Apart S T
  bounds : in_bounds T.table.counters ≡ in_bounds S.table.counters

-- by the counters of the table that is left
left-beside : (S T : State) (counters : List ℕ) → T.table ≡ with_counters S.table counters → T.medium ≡ S.medium → in_bounds counters ≡ in_bounds S.table.counters → Beside S T
left-beside S T counters e f b =
    let c : T.table.counters ≡ counters = ap (λ (t : Table). t.counters) e in
    record { apart = record { table = e ∙ ap (with_counters S.table) (sym c); medium = f }; bounds = ap in_bounds c ∙ b }

-- one call on both: it is answered alike, and they stay so
record Alike (S T : State) (c : Call) : Type 0 where
  said : reply T c ≡ reply S c
  left : Beside (next S c) (next T c)

module _ (S : State) (counters : List ℕ) (b : in_bounds counters ≡ in_bounds S.table.counters) where
  abbrev T : State
  T = with-counters S counters

  -- what is opened is counted in both
  opened-beside : (tenant opened : ℕ) → Beside (record { table = with_opened S.table tenant opened; medium = S.medium }) (record { table = with_opened T.table tenant opened; medium = S.medium })
  unfolding with_opened
  opened-beside tenant opened = left-beside _ _ (counted counters tenant opened) refl refl
      (counted-bounds counters tenant opened ∙ b ∙ sym (counted-bounds S.table.counters tenant opened))

  call-alike : (c : Call) → Alike S T c
  unfolding reply next lookup_table batch_table
  call-alike (add_server weight) = record {
    said = add_server-unread S.table counters b S.medium weight;
    left = left-beside _ _ counters (add_server-apart S.table counters b S.medium weight) refl (b ∙ ap in_bounds (sym (add_server-counters S.table S.medium weight)));
  }
  call-alike (reweight server weight) = record {
    said = reweight-unread S.table counters b S.medium server weight;
    left = left-beside _ _ counters (reweight-apart S.table counters b S.medium server weight) refl (b ∙ ap in_bounds (sym (reweight-counters S.table S.medium server weight)));
  }
  call-alike (write caller id value) =
      let w = write-unread S.table counters b S.medium caller id value in
      record {
        said = w.0;
        left = left-beside _ _ counters (write-apart S.table counters b S.medium caller id value) w.1 (b ∙ ap in_bounds (sym (write-counters S.table S.medium caller id value)));
      }
  call-alike (delete caller id) =
      let d = delete-unread S.table counters b S.medium caller id in
      record { said = d.0; left = left-beside _ _ counters refl d.1 b }
  call-alike (lookup caller id) =
      let e = lookup-unread S.table counters b S.medium caller id in
      record { said = e; left = rw e (opened-beside caller _) }
  call-alike (batch caller ids) =
      let e = batch-unread S.table counters b S.medium caller ids in
      record { said = ap in_brief e; left = rw e (opened-beside caller _) }

  -- a crashed call on both: the same words, and the counters as they were
  turned-beside : (x : Turn) → Beside (turned S x) (turned T x)
  unfolding turned recovered crash_write crash_delete
  turned-beside (plain c) = (call-alike c).left
  turned-beside (crashed_write caller id value n beam) =
      let m = (crash_write S caller id value n beam).medium in
      let same = same-crash-write T.table S.table S.medium (agree S.table counters b) (alike S.table counters b) n beam caller id value in
      left-beside _ _ counters (ap (recover_table T.table) same ∙ recover-apart S.table counters b m) same (b ∙ ap in_bounds (sym (recover-counters S.table m)))
  turned-beside (crashed_delete caller id n beam) =
      let m = (crash_delete S caller id n beam).medium in
      let same = same-crash-delete T.table S.table S.medium (agree S.table counters b) (alike S.table counters b) n beam caller id in
      left-beside _ _ counters (ap (recover_table T.table) same ∙ recover-apart S.table counters b m) same (b ∙ ap in_bounds (sym (recover-counters S.table m)))

-- a state that differs in the counters alone is the other with its counters
beside-is : (S T : State) → Beside S T → with-counters S T.table.counters ≡ T
beside-is S T a = sym (ap₂ (λ (t : Table) (m : List ℕ). record { table = t; medium = m }) a.apart.table a.apart.medium)

beside-alike : (S T : State) → Beside S T → (c : Call) → Alike S T c
beside-alike S T a c = subst (λ (X : State). Alike S X c) (beside-is S T a) (call-alike S T.table.counters a.bounds c)

beside-batch : (S T : State) → Beside S T → (tenant : ℕ) (ids : List ℕ) → batch_reply T.table T.medium tenant ids ≡ batch_reply S.table S.medium tenant ids
beside-batch S T a tenant ids =
    subst (λ (X : State). batch_reply X.table X.medium tenant ids ≡ batch_reply S.table S.medium tenant ids) (beside-is S T a)
    (batch-unread S.table T.table.counters a.bounds S.medium tenant ids)

beside-turned : (S T : State) → Beside S T → (x : Turn) → Beside (turned S x) (turned T x)
beside-turned S T a x = subst (λ (X : State). Beside (turned S x) (turned X x)) (beside-is S T a) (turned-beside S T.table.counters a.bounds x)

-- of the replies to plain calls
beside-replies : (S T : State) → Beside S T → (x : Turn) (turns : List Turn) → turn_replies (turned T x) turns ≡ turn_replies (turned S x) turns → turn_replies T (x ∷ turns) ≡ turn_replies S (x ∷ turns)
unfolding turn_replies
beside-replies S T a (plain c) turns e = ap₂ (λ (r : Reply) (l : List Reply). r ∷ l) (beside-alike S T a c).said e
beside-replies S T a (crashed_write caller id value n beam) turns e = e
beside-replies S T a (crashed_delete caller id n beam) turns e = e

beside-unread : (turns : List Turn) (S T : State) → Beside S T → Answered S T turns
unfolding turn_replies after_turns
beside-unread [] S T a = record { same = refl; batches = beside-batch S T a; apart = a.apart }
beside-unread (x ∷ turns) S T a =
    let more = beside-unread turns (turned S x) (turned T x) (beside-turned S T a x) in
    record { same = beside-replies S T a x turns more.same; batches = more.batches; apart = more.apart }

pub counters-unread : (turns : List Turn) (S T : State) → Unread S T turns
counters-unread turns S T = record {
  unread = λ a s t. beside-unread turns S T (record { apart = a; bounds = (sound-facts T.table t).bounds ∙ sym (sound-facts S.table s).bounds });
}
