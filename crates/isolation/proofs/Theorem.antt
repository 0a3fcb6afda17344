-- Neighbours are invisible: what a tenant hears is told by the calls that it sees and their verdicts, in each history.
-- Assumes nothing.
use Prim.Native.Nat.{ℕ}
use mathlib.Core.Path.{◌≡◌, refl, sym, ap, ap₂, ◌∙◌}
use mathlib.Core.Bool.{Bool, true, cond}
use mathlib.Core.List.{List, [], ◌∷◌}
use Rattle.lists.proofs.Tests.{by_bool, true-not-false}
use Rattle.replies.specs.Refusal.{first_of}
use Rattle.server_rows.specs.ServerRows.{start_rows}
use Rattle.history.specs.Call.{Call}
use Rattle.history.specs.Machine.{State, next, begin}
use Rattle.history.specs.Ledger.{Ledger, Entered, fresh_ledger, enter}
use Rattle.history.proofs.Run.{Agrees, begin-agrees, step}
use Rattle.history.proofs.LiveRule.{Rules, begin-rules, next-rules}
use Rattle.isolation.specs.Seen.{sees, supposed, verdict, Shown, shown_by, seen, verdicts, heard}
use Rattle.isolation.specs.Isolation.{Isolation}
use Rattle.isolation.proofs.View.{trimmed, view, next_of, rest_of, foretold}
use Rattle.isolation.proofs.Entering.{Verdict, viewed, unseen, seen-enters}
use Rattle.isolation.proofs.Hearing.{seen-heard}
use Rattle.isolation.proofs.Counting.{counter-heard}

module _ (tenant : ℕ) where
  none_seen : (K : Ledger) (oks : List Bool) → [] ≡ foretold K [] oks
  unfolding foretold
  none_seen K oks = refl

  -- one call that is seen: it takes a verdict where it is supposed, and none where it is not
  one_seen : (S : State) (L : Ledger) → Agrees S L → Rules L S.medium → (c : Call) → sees tenant c ≡ true
      → (calls : List Call) (oks later : List Bool) → Verdict S c (next_of oks) → cond (supposed c) (rest_of oks) oks ≡ later
      → shown_by S c ∷ foretold (view tenant (enter L c).ledger) calls later ≡ foretold (view tenant L) (c ∷ calls) oks
  unfolding foretold viewed
  one_seen S L A R c s calls oks later by e = rw e (ap₂ (λ (h : Shown) (K : Ledger). h ∷ foretold K calls later)
      (seen-heard tenant S L A R c s (next_of oks) by)
      (ap (λ (x : Entered). x.ledger) (seen-enters tenant S L A c s (next_of oks) by)))

  foretells : (calls : List Call) (S : State) (L : Ledger) → Agrees S L → Rules L S.medium
      → heard tenant S calls ≡ foretold (view tenant L) (seen tenant calls) (verdicts tenant S calls)
  unfolding heard seen verdicts next_of rest_of
  foretells [] S L A R = none_seen (view tenant L) []
  foretells (c ∷ calls) S L A R =
      let later = verdicts tenant (next S c) calls in
      let ih = foretells calls (next S c) (enter L c).ledger (step S L A c).agrees (next-rules S L A R c) in
      by_bool (sees tenant c)
      (λ s. rw s (ap (λ (l : List Shown). shown_by S c ∷ l) ih ∙ by_bool (supposed c)
      (λ q. rw q (one_seen S L A R c s (seen tenant calls) (verdict S c ∷ later) later (λ _. refl) (rw q)))
      (λ q. rw q (one_seen S L A R c s (seen tenant calls) later later (λ p. absurd (true-not-false p q)) (rw q)))))
      (λ s. rw s (ih ∙ ap (λ (K : Ledger). foretold K (seen tenant calls) later) (unseen tenant L c s)))

  -- of a fresh ledger the tenant knows the capacity
  same-fresh : (capacity salt n n' : ℕ) → view tenant (fresh_ledger capacity salt n) ≡ view tenant (fresh_ledger capacity salt n')
  unfolding trimmed fresh_ledger
  same-fresh capacity salt n n' = refl

  -- what it hears of one history is what it hears of the other
  hears-same : (capacity salt n n' : ℕ) → first_of (start_rows capacity salt) ≡ 0 → (calls calls' : List Call) → seen tenant calls ≡ seen tenant calls'
      → verdicts tenant (begin capacity salt n) calls ≡ verdicts tenant (begin capacity salt n') calls'
      → heard tenant (begin capacity salt n) calls ≡ heard tenant (begin capacity salt n') calls'
  hears-same capacity salt n n' z calls calls' s v =
      foretells calls (begin capacity salt n) (fresh_ledger capacity salt n) (begin-agrees capacity salt n z) (begin-rules capacity salt n)
      ∙ ap₂ (foretold (view tenant (fresh_ledger capacity salt n))) s v
      ∙ ap (λ (K : Ledger). foretold K (seen tenant calls') (verdicts tenant (begin capacity salt n') calls')) (same-fresh capacity salt n n')
      ∙ sym (foretells calls' (begin capacity salt n') (fresh_ledger capacity salt n') (begin-agrees capacity salt n' z) (begin-rules capacity salt n'))

pub isolation : (tenant capacity salt n n' : ℕ) → first_of (start_rows capacity salt) ≡ 0 → (calls calls' : List Call) → Isolation tenant capacity salt n n' calls calls'
isolation tenant capacity salt n n' z calls calls' = record {
  same = hears-same tenant capacity salt n n' z calls calls';
  counter = λ l s v. counter-heard tenant l capacity salt n n' calls calls' (hears-same tenant capacity salt n n' z calls calls' s v);
}
