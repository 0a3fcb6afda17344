-- `batch_begin::begin` meets its contract. The invariant: the refusals of the ids passed are stored, and nothing else.
use Rattle.std.proofs.Common.{rules, ◌≡◌, ◌∙◌, ℕ, ◌+◌, List, set, replicate, Ok, Err, ap}
use Rattle.lists.specs.Below.{nth, set_below}
use Rattle.lists.proofs.Below.{set_below-more, set-nth, nth-zeros}
use Rattle.replies.specs.declared.Refusal.{Refusal}
use Rattle.replies.specs.declared.Reply.{Reply}
use Rattle.replies.specs.declared.LookupAnswer.{LookupAnswer}
use Rattle.replies.specs.Reply.{number_of, found_or, reply_of_lookup}
use Rattle.batch_answer.specs.Answer.{filled, refusals_of, values_of, opened_counts_of}
use Rattle.batch_answer.proofs.Columns.{column-set, column-fill}
use Rattle.batch_begin.specs.declared.Parts.{Parts}
use Rattle.batch_begin.specs.Begin.{Columns, columns_of, first_refusal, first_parts}
use Rattle.batch_begin.proofs.begin.Goals as goal

-- a zero stored among zeros
still_zeros : (n : ℕ) → set {A = ℕ} (replicate 256 0) n 0 ≡ replicate 256 0
still_zeros n = rw (nth-zeros 256 n) at (set-nth (replicate 256 0) n)

-- one refusal more
stored : (number tenant : ℕ) (ids : List ℕ) (n : ℕ) (parts : Parts LookupAnswer) (refusal : Refusal)
    → columns_of parts ≡ first_parts number tenant ids n → number_of refusal ≡ first_refusal number tenant (nth ids n)
    → columns_of (record { answers = set parts.answers n (record { value = Err refusal; opened = 0 }); ends = parts.ends })
    ≡ first_parts number tenant ids (n + 1)
unfolding first_parts filled reply_of_lookup found_or
stored number tenant ids n parts refusal e d =
    let a : LookupAnswer = record { value = Err refusal; opened = 0 } in
    let r = column-set (λ (x : Reply). x.refusal) parts.answers n a
    ∙ set_below-more (λ i. first_refusal number tenant (nth ids i)) n (replicate 256 0) _ _ (ap (λ (c : Columns). c.refusals) e) d in
    let v = column-set (λ (x : Reply). x.value) parts.answers n a ∙ ap (λ (c : Columns). set c.values n 0) e ∙ still_zeros n in
    let o = column-set (λ (x : Reply). x.opened) parts.answers n a ∙ ap (λ (c : Columns). set c.opened n 0) e ∙ still_zeros n in
    λ k. record { refusals = r k; values = v k; opened = o k; ends = (ap (λ (c : Columns). c.ends) e) k }

pub loop-i-init : goal.loop-i-init
unfolding first_parts filled set_below reply_of_lookup found_or
loop-i-init c =
    let a : LookupAnswer = record { value = Ok 0; opened = 0 } in
    let e : c.fill.new.self ≡ replicate 256 a = search rules in
    let z : c.fill-2.new.self ≡ replicate 256 0 = search rules in
    λ k. record {
      refusals = (ap (λ (xs : List LookupAnswer). refusals_of xs) e ∙ column-fill (λ (x : Reply). x.refusal) 256 a) k;
      values = (ap (λ (xs : List LookupAnswer). values_of xs) e ∙ column-fill (λ (x : Reply). x.value) 256 a) k;
      opened = (ap (λ (xs : List LookupAnswer). opened_counts_of xs) e ∙ column-fill (λ (x : Reply). x.opened) 256 a) k;
      ends = z k;
    }

pub loop-i-preserved : goal.loop-i-preserved
loop-i-preserved c = stored _ _ _ c.loop-i.i c.loop-i.parts _ c.loop-i.invariant c.first_refusal.ensures
