-- A started table over blank words agrees with the fresh ledger, and every list of turns keeps them in agreement.
-- Assumes nothing.
use Prim.Native.Nat.{ℕ}
use mathlib.Core.Path.{◌≡◌, refl, ap, ap₂, ◌∙◌}
use mathlib.Core.Bool.{true, not}
use mathlib.Core.List.{List, [], ◌∷◌, map}
use native.Mathlib.Omega.{arith}
use lib.ListN.{length-replicate, get_or-replicate}
use borrow.Author.Tests.{not-false}
use Rattle.medium.specs.Word.{blank}
use Rattle.medium.proofs.Places.{server-zero}
use Rattle.table.specs.Parts.{empty}
use Rattle.table.specs.Sound.{in_range}
use Rattle.table.proofs.Soundness.{empty-arrays, empty-sound}
use Rattle.replies.specs.Refusal.{first_of}
use Rattle.replies.proofs.Refusals.{passed, settle-yes}
use Rattle.server_rows.specs.ServerRows.{start_rows}
use Rattle.servers.specs.Servers.{start_table}
use Rattle.history.specs.Call.{Call, add_server, reweight, write, delete, lookup, batch, Turn, plain, crashed_write, crashed_delete, Heard, heard, Compared, compared}
use Rattle.history.specs.Machine.{State, reply, next, turned, after_turns, turn_replies, after, replies, begin}
use Rattle.history.specs.Hearing.{hear, hears}
use Rattle.history.specs.Ledger.{Ledger, fresh_ledger, used_by, enter, noted, ledger_by, replies_by, ledger_after, ledger_replies}
use Rattle.history.proofs.Tops.{TopAt}
use Rattle.history.proofs.Events.{place_of, each_none}
use Rattle.history.proofs.Agree.{Agree, Step}
use Rattle.history.proofs.AddServerStep.{add-server-step}
use Rattle.history.proofs.ReweightStep.{reweight-step}
use Rattle.history.proofs.WriteStep.{write_step}
use Rattle.history.proofs.DeleteStep.{delete-step}
use Rattle.history.proofs.LookupStep.{lookup-step}
use Rattle.history.proofs.Batches.{batch-step}
use Rattle.history.proofs.CrashSteps.{crash-write-step, crash-delete-step}

abbrev pub Agrees : State → Ledger → Type 0
Agrees S L = Agree S.table S.medium L

start-in-range : (capacity salt : ℕ) → first_of (start_rows capacity salt) ≡ 0 → in_range capacity salt ≡ true
unfolding start_rows
start-in-range capacity salt z = not-false _ (passed 1 (not (in_range capacity salt)) [] z).0

pub begin-agrees : (capacity salt n : ℕ) → first_of (start_rows capacity salt) ≡ 0 → Agrees (begin capacity salt n) (fresh_ledger capacity salt n)
unfolding begin start_table fresh_ledger used_by place_of TopAt
begin-agrees capacity salt n z =
    rw (settle-yes (start_rows capacity salt) (empty capacity salt) (empty 0 0) z) (record {
      is_sound = empty-sound capacity salt (start-in-range capacity salt z);
      arrays = empty-arrays capacity salt;
      capacity = refl;
      salt = refl;
      count = refl;
      weights = λ k l. absurd (omega arith);
      used = λ k l. absurd (omega arith);
      read_ps = λ k l. absurd (omega arith);
      words = length-replicate {A = ℕ} n blank;
      holds = record {
        long = omega (arith, server-zero capacity);
        rest = λ a l i. get_or-replicate n a blank 0 (rw length-replicate at i);
        free = λ k j q l u i b. absurd (omega arith);
        fits = λ k. omega arith;
        filled = λ k j l u. absurd (omega arith);
        none_above = λ k l. refl;
        written = each_none _;
        opens = λ id k j s l i b. absurd (omega arith);
        tops = λ id s. record { off = λ k j l i b. absurd (omega arith) };
      };
    })

pub step : (S : State) (L : Ledger) → Agrees S L → (c : Call) → Step (reply S c) (next S c).table (next S c).medium (enter L c)
unfolding reply next
step S L A (add_server weight) = add-server-step A weight
step S L A (reweight server weight) = reweight-step A server weight
step S L A (write tenant id value) = write_step A tenant id value
step S L A (delete tenant id) = delete-step A id tenant
step S L A (lookup tenant id) = lookup-step A id tenant
step S L A (batch tenant ids) = batch-step A tenant ids

pub turn : (S : State) (L : Ledger) → Agrees S L → (x : Turn) → Agrees (turned S x) (noted L (hear S L x))
unfolding turned noted hear
turn S L A (plain c) = (step S L A c).agrees
turn S L A (crashed_write tenant id value n beam) = crash-write-step S L A tenant id value n beam
turn S L A (crashed_delete tenant id n beam) = crash-delete-step S L A tenant id n beam

pub record Ran (S : State) (L : Ledger) (turns : List Turn) : Type 0 where
  pub alike : map compared (turn_replies S turns) ≡ replies_by L (hears S L turns)
  pub agrees : Agrees (after_turns S turns) (ledger_by L (hears S L turns))

-- one turn more, of which a reply is compared where nothing crashed
one_more : (S : State) (L : Ledger) → Agrees S L → (x : Turn) (turns : List Turn) → Ran (turned S x) (noted L (hear S L x)) turns
    → map compared (turn_replies S (x ∷ turns)) ≡ replies_by L (hears S L (x ∷ turns))
unfolding turn_replies replies_by hears hear
one_more S L A (plain c) turns r = ap₂ (λ (y : Compared) (l : List Compared). y ∷ l) (step S L A c).alike r.alike
one_more S L A (crashed_write tenant id value n beam) turns r = r.alike
one_more S L A (crashed_delete tenant id n beam) turns r = r.alike

pub run : (turns : List Turn) (S : State) (L : Ledger) → Agrees S L → Ran S L turns
unfolding turn_replies replies_by after_turns ledger_by hears
run [] S L A = record { alike = refl; agrees = A }
run (x ∷ turns) S L A =
    let r = run turns (turned S x) (noted L (hear S L x)) (turn S L A x) in
    record { alike = one_more S L A x turns r; agrees = r.agrees }

-- of a list of calls the ledger hears the calls
hears-calls : (calls : List Call) (S : State) (L : Ledger) → hears S L (map plain calls) ≡ map heard calls
unfolding hears hear
hears-calls [] S L = refl
hears-calls (c ∷ calls) S L = ap (λ (l : List Heard). heard c ∷ l) (hears-calls calls (turned S (plain c)) (noted L (heard c)))

pub record RanCalls (S : State) (L : Ledger) (calls : List Call) : Type 0 where
  pub alike : map compared (replies S calls) ≡ ledger_replies L calls
  pub agrees : Agrees (after S calls) (ledger_after L calls)

pub run-calls : (calls : List Call) (S : State) (L : Ledger) → Agrees S L → RanCalls S L calls
run-calls calls S L A =
    let r = run (map plain calls) S L A in
    let e = hears-calls calls S L in
    record { alike = r.alike ∙ ap (replies_by L) e; agrees = rw e at r.agrees }
