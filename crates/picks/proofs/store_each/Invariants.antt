-- `picks::store_each` meets its contract. The invariant: by any rule that the function follows, the numbers of the ids passed are stored.
use Rattle.std.proofs.Common.{ℕ, ◌≡◌}
use Rattle.lists.specs.Below.{nth, set_below}
use Rattle.picks.proofs.store_each.Given as goal

abbrev pub invariant-loop-i : goal.invariant-loop-i
invariant-loop-i g l =
    (rule : ℕ → ℕ) → ((id r : ℕ) → goal.F-post g l.pick id r → r ≡ rule id)
    → l.servers ≡ set_below (λ i. rule (nth l.ids i)) l.i l.initial.servers
