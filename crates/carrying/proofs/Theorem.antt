-- An archive whose table was carried as its image goes on as if it had not been.
-- Assumes nothing.
use Prim.Native.Nat.{ℕ, ◌+◌}
use mathlib.Core.Path.{◌≡◌, refl, sym, ap, ap₂, ◌∙◌, subst}
use mathlib.Core.Bool.{true, cond}
use mathlib.Core.List.{List, [], ◌∷◌}
use native.Mathlib.Omega.{arith}
use lib.Dec.{eqb}
use Rattle.counters.specs.Counter.{grown}
use Rattle.table.specs.declared.Table.{Table}
use Rattle.table.specs.Sound.{sound}
use Rattle.table.proofs.Soundness.{Arrays}
use Rattle.replies.specs.declared.Reply.{Reply}
use Rattle.batch_answer.specs.Answer.{BatchReply, opened_in}
use Rattle.batch.specs.Batch.{batch_reply}
use Rattle.recovery.specs.Recovery.{recover_table}
use Rattle.archive.proofs.BelowCount.{Alike, recover-below, add_server-below, reweight-below, write-below, delete-below, lookup-below, lookup-alike, batch-below, batch-alike}
use Rattle.history.specs.Call.{Call, add_server, reweight, write, delete, lookup, batch, Turn, plain, crashed_write, crashed_delete}
use Rattle.history.specs.Machine.{State, in_brief, reply, next, crash_write, crash_delete, recovered, turned, after_turns, turn_replies}
use Rattle.history.specs.Counters.{opened_to, opened_in_turn, opened_by}
use Rattle.history.proofs.CrashAlike.{same-crash-write, same-crash-delete}
use Rattle.history.proofs.Counters.{after-counter}
use Rattle.image.specs.Layout.{image_of}
use Rattle.image.specs.Decoding.{decode_table}
use Rattle.image.specs.Promises.{EqualBelow}
use Rattle.image.proofs.Images.{equal-image}
use Rattle.image.proofs.Theorem.{accepts, reads, decoded-arrays}
use Rattle.carrying.specs.Carried.{kept, carried, Carried}

-- one call on two tables that agree below the count and are alike sound: it is answered alike, and they stay so
record Step (t u : Table) (m : List ℕ) (c : Call) : Type 0 where
  same : reply (kept t m) c ≡ reply (kept u m) c
  alike : Alike (next (kept t m) c).table (next (kept u m) c).table
  medium : (next (kept t m) c).medium ≡ (next (kept u m) c).medium
  opened : (tenant : ℕ) → opened_to tenant (kept t m) c ≡ opened_to tenant (kept u m) c

step : (t u : Table) (m : List ℕ) → Alike t u → (c : Call) → Step t u m c
unfolding reply next opened_to
step t u m a (add_server weight) = let b = add_server-below t u a m weight in record { same = b.0; alike = b.1; medium = refl; opened = λ _. refl }
step t u m a (reweight server weight) = let b = reweight-below t u a server weight in record { same = b.0; alike = b.1; medium = refl; opened = λ _. refl }
step t u m a (write caller id value) = let b = write-below t u a m caller id value in record { same = b.0; alike = b.1; medium = b.2; opened = λ _. refl }
step t u m a (delete caller id) = let b = delete-below t u a.agree a.is_sound m caller id in record { same = b.0; alike = a; medium = b.1; opened = λ _. refl }
step t u m a (lookup caller id) =
    let e = lookup-below t u a.agree a.is_sound m caller id in
    record { same = e; alike = lookup-alike t u a m caller id; medium = refl; opened = λ tenant. ap (λ (r : Reply). cond (eqb caller tenant) r.opened 0) e }
step t u m a (batch caller ids) =
    let e = batch-below t u a.agree a.is_sound m caller ids in
    record { same = ap in_brief e; alike = batch-alike t u a m caller ids; medium = refl; opened = λ tenant. ap (λ (b : BatchReply). cond (eqb caller tenant) (opened_in b) 0) e }

-- the reply to a turn's call, where it did not crash, before the replies to later turns
unfoldable replies_with : State → Turn → List Reply → List Reply
replies_with S (plain c) later = reply S c ∷ later
replies_with S (crashed_write caller id value n beam) later = later
replies_with S (crashed_delete caller id n beam) later = later

with_first : (S : State) (x : Turn) (turns : List Turn) → turn_replies S (x ∷ turns) ≡ replies_with S x (turn_replies (turned S x) turns)
unfolding replies_with turn_replies
with_first S (plain c) turns = refl
with_first S (crashed_write caller id value n beam) turns = refl
with_first S (crashed_delete caller id n beam) turns = refl

-- one turn
record TurnStep (t u : Table) (m : List ℕ) (x : Turn) : Type 0 where
  same : (later later' : List Reply) → later ≡ later' → replies_with (kept t m) x later ≡ replies_with (kept u m) x later'
  alike : Alike (turned (kept t m) x).table (turned (kept u m) x).table
  medium : (turned (kept t m) x).medium ≡ (turned (kept u m) x).medium
  opened : (tenant : ℕ) → opened_in_turn tenant (kept t m) x ≡ opened_in_turn tenant (kept u m) x

turn_step : (t u : Table) (m : List ℕ) → Alike t u → (x : Turn) → TurnStep t u m x
unfolding replies_with turned recovered crash_write crash_delete opened_in_turn
turn_step t u m a (plain c) =
    let s = step t u m a c in
    record { same = λ later later' e. ap₂ (λ (x : Reply) (l : List Reply). x ∷ l) s.same e; alike = s.alike; medium = s.medium; opened = s.opened }
turn_step t u m a (crashed_write caller id value n beam) =
    let e = same-crash-write t u m a.agree a.is_sound n beam caller id value in
    record {
      same = λ later later' d. d;
      alike = subst (λ (w : List ℕ). Alike (recover_table t (crash_write (kept t m) caller id value n beam).medium) (recover_table u w)) e (recover-below t u a _);
      medium = e;
      opened = λ _. refl;
    }
turn_step t u m a (crashed_delete caller id n beam) =
    let e = same-crash-delete t u m a.agree a.is_sound n beam caller id in
    record {
      same = λ later later' d. d;
      alike = subst (λ (w : List ℕ). Alike (recover_table t (crash_delete (kept t m) caller id n beam).medium) (recover_table u w)) e (recover-below t u a _);
      medium = e;
      opened = λ _. refl;
    }

-- and so does every list
record Run (S T : State) (turns : List Turn) : Type 0 where
  same : turn_replies S turns ≡ turn_replies T turns
  alike : Alike (after_turns S turns).table (after_turns T turns).table
  medium : (after_turns S turns).medium ≡ (after_turns T turns).medium
  opened : (tenant : ℕ) → opened_by tenant S turns ≡ opened_by tenant T turns

run : (turns : List Turn) (t u : Table) (m : List ℕ) → Alike t u → Run (kept t m) (kept u m) turns
unfolding turn_replies after_turns opened_by
run [] t u m a = record { same = refl; alike = a; medium = refl; opened = λ _. refl }
run (x ∷ turns) t u m a =
    let s = turn_step t u m a x in
    let S = turned (kept t m) x in
    let T = turned (kept u m) x in
    let r : Run S T turns = subst (λ (w : List ℕ). Run S (kept T.table w) turns) s.medium (run turns S.table T.table S.medium s.alike) in
    record {
      same = with_first (kept t m) x turns ∙ s.same _ _ r.same ∙ sym (with_first (kept u m) x turns);
      alike = r.alike;
      medium = r.medium;
      opened = λ tenant. ap₂ (λ (x y : ℕ). x + y) (s.opened tenant) (r.opened tenant);
    }

pub goes_on : (t : Table) → sound t ≡ true → Arrays t → (m : List ℕ) (turns : List Turn) → Carried t m turns
goes_on t ok whole m turns =
    let u = decode_table (image_of t) in
    let taken = (accepts (image_of t)).images (record { table = t; is_sound = ok; image = refl }) in
    let read = reads (image_of t) taken in
    let equal = read.equal t refl in
    let arrays = decoded-arrays (image_of t) in
    let r = run turns u t m (record { agree = equal.below; is_sound = read.is_sound ∙ sym ok; one = arrays; other = whole }) in
    let a = r.alike in
    let C = after_turns (carried t m) turns in
    let S = after_turns (kept t m) turns in
    let after_equal : EqualBelow C.table S.table = record {
      below = a.agree;
      counters = λ tenant l.
          after-counter tenant turns (carried t m) (omega (arith, arrays.counters))
          ∙ ap₂ grown (equal.counters tenant l) (r.opened tenant)
          ∙ sym (after-counter tenant turns (kept t m) (omega (arith, whole.counters)));
    } in
    record {
      same = r.same;
      batches = λ tenant ids.
          batch-below C.table S.table a.agree a.is_sound C.medium tenant ids
          ∙ ap (λ (w : List ℕ). batch_reply S.table w tenant ids) r.medium;
      medium = r.medium;
      equal = after_equal;
      image = equal-image C.table S.table after_equal;
    }
