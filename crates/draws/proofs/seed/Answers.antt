-- `draws::seed` meets its contract: the wrapped sum, or 1 where it is 0.
use Rattle.std.proofs.Common.{◌≡◌, ℕ, zero, suc, ◌+◌, ◌%◌, arith, ap, refl, ◌∙◌, ne_eqb}
use Rattle.std.specs.Prelude.{max}
use Rattle.std.proofs.Math.Nat.{suc-max-suc, max-zero}
use Rattle.draws.specs.Draw.{modulus, step_of, nonzero, seed_of}
use Rattle.draws.proofs.seed.Goals as goal

-- the sum is wrapped twice, with the step for its last term
wrapped : (id salt step sum : ℕ) → sum ≡ step → ((id + salt) % modulus + sum) % modulus ≡ (id + step + salt) % modulus
wrapped id salt step sum e = omega arith

at_least_one : (s : ℕ) → max s 1 ≡ nonzero s
unfolding nonzero
at_least_one zero = refl
at_least_one (suc n) = rw (suc-max-suc n 0, max-zero n, ne_eqb (suc n) 0 (omega arith)) refl

pub returns : goal.returns
unfolding seed_of
returns c = c.max.ensures ∙ at_least_one _ ∙ ap nonzero (wrapped c.args.id c.args.salt (step_of c.args.server) _ c.step.ensures.step)
