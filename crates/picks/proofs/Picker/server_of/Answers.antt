-- `picks::Picker::server_of` meets its contract. The invariant: the write server is the highest of those left that take the id.
use Rattle.std.proofs.Common.{◌≡◌, ℕ, ◌+◌, ◌*◌, ◌-◌, ◌/◌, ◌%◌, length, subst, sym, arith, ◌∙◌}
use Rattle.placement.proofs.Fronts.{front-server}
use Rattle.picks.specs.Limited.{block, passes}
use Rattle.picks.proofs.Limiting.{ServedBy, served-all, highest-small, served-past, served-among, served-rest}
use Rattle.picks.proofs.Picker.server_of.Goals as goal

pub loop-block-init : goal.loop-block-init
loop-block-init c =
    let ws = c.args.self.now.weights.all.now in
    let all : length ws ≡ length ws % block + block * (length ws / block) = omega arith in
    subst (ServedBy ws c.args.self.now.salt c.args.id) all (served-all ws c.args.self.now.salt c.args.id)

pub overflow_add-result : goal.overflow_add-result
overflow_add-result c =
    let from : ℕ = length c.args.self.now.weights.all.now % block + block * (c.loop-block.block - 1) in
    omega (arith, highest-small (λ i. passes c.args.self.now.weights.all.now c.args.self.now.salt c.args.id (from + i)) block _ (sym c.highest_of.ensures ∙ c.in-Some.is), c.args.self.now.weights.bounded.few)

pub returns-in-Some : goal.returns-in-Some
returns-in-Some c =
    served-among _ _ _ _ _ block (omega arith) c.loop-block.invariant _ (sym c.highest_of.ensures ∙ c.in-Some.is)

pub loop-block-preserved : goal.loop-block-preserved
loop-block-preserved c = served-past _ _ _ _ _ block (omega arith) c.loop-block.invariant _ (sym c.highest_of.ensures) c.in_default.not-Some

pub returns : goal.returns
returns c =
    let rest : length c.args.self.now.weights.all.now % block + block * c.loop-block.block ≡ length c.args.self.now.weights.all.now % block = omega arith in
    served-rest _ _ _ _ _ (rw rest at c.loop-block.invariant) (c.write_server.ensures ∙ front-server _ _ _ _ (omega arith))
