-- Known values under a salt (document 02, item 4), one theorem over the definitions. Document 01's id goes to another server of the
-- same weights than under salt 0, where it is server 2 (KnownDraws `weights102`): what a salt is for. And a sum of 0 is read as 1.
use Rattle.std.specs.Prelude.{◌+◌, ◌%◌, ◌≡◌, refl, [], ◌∷◌}
use Rattle.lists.specs.Below.{highest, or_zero, total}
use Rattle.draws.specs.Draw.{modulus, step_of, nonzero, seed_of, xor_left, xor_right, round_of, draw_of}
use Rattle.placement.specs.Fraction.{exceeds}
use Rattle.placement.specs.Rule.{share_of, write_p, takes, pick, write_server}
use Rattle.placement.specs.KnownDraws.{picked_under}

pub record KnownSalted : Type 0 where
  pub weights102 : picked_under 2 (1 ∷ 0 ∷ 2 ∷ []) 3 ≡ 0
  pub zero_sum : (626627284 + step_of 2 + 1) % modulus ≡ 0
  pub zero_seed : draw_of 1 626627284 2 ≡ 2647435461

pub known_salted : KnownSalted
unfolding write_server pick highest or_zero takes exceeds write_p share_of total draw_of round_of xor_left xor_right seed_of nonzero step_of
known_salted = record {
  weights102 = refl;
  zero_sum = refl;
  zero_seed = refl;
}
