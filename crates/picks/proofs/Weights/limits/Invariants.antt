-- `picks::Weights::limits` meets its contract. The invariant: the servers passed have their limits, by the sum so far.
use Rattle.std.proofs.Common.{◌≡◌, ◌*◌, ◌≤◌, length}
use Rattle.lists.specs.Below.{nth, total}
use Rattle.picks.proofs.Limiting.{LimitsBelow}
use Rattle.picks.proofs.Weights.limits.Given as goal

abbrev pub invariant-loop-k : goal.invariant-loop-k
invariant-loop-k l = record {
  long : length l.limits ≡ 256;
  sum : l.sum ≡ total (nth l.self.all.now) l.k;
  small : l.sum ≤ 65536 * l.k;
  limits : LimitsBelow l.self.all.now l.limits l.k;
}
