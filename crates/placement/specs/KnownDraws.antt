-- Document 01's starred lines, "Known draws and edges": one theorem over the definitions. It knows no salt: its draws are those of
-- salt 0.
use Rattle.std.specs.Prelude.{ℕ, ◌+◌, ◌%◌, ◌≡◌, refl, List, [], ◌∷◌}
use Rattle.lists.specs.Below.{nth, highest, or_zero, total}
use Rattle.draws.specs.Draw.{modulus, step_of, nonzero, seed_of, xor_left, xor_right, round_of, draw_of}
use Rattle.placement.specs.Fraction.{exceeds}
use Rattle.placement.specs.Rule.{share_of, write_p, takes, pick, write_server}

-- the draw under salt 0
abbrev pub plain_draw : ℕ → ℕ → ℕ
plain_draw id k = draw_of 0 id k

-- the write server of id 626627286 among servers of these weights, under a salt and under salt 0
abbrev pub picked_under : ℕ → List ℕ → ℕ → ℕ
picked_under salt ws n = write_server (nth ws) n salt 626627286

abbrev pub picked : List ℕ → ℕ → ℕ
picked ws n = picked_under 0 ws n

pub record KnownDraws : Type 0 where
  pub step0 : step_of 0 ≡ 2654435769
  pub step2 : step_of 2 ≡ 3668340011
  pub one_round : round_of 1 ≡ 270369
  pub two_rounds : round_of (round_of 1) ≡ 67634689
  pub three_rounds : round_of (round_of (round_of 1)) ≡ 2647435461
  pub draw : plain_draw 626627286 2 ≡ 2647435461
  pub zero_sum : (626627285 + step_of 2) % modulus ≡ 0
  pub zero_seed : plain_draw 626627285 2 ≡ 2647435461
  pub weights102 : picked (1 ∷ 0 ∷ 2 ∷ []) 3 ≡ 2
  pub weights202 : picked (2 ∷ 0 ∷ 2 ∷ []) 3 ≡ 0
  pub weights005 : picked (0 ∷ 0 ∷ 5 ∷ []) 3 ≡ 2
  pub weights000 : picked (0 ∷ 0 ∷ 0 ∷ []) 3 ≡ 0

pub known_draws : KnownDraws
unfolding write_server pick highest or_zero takes exceeds write_p share_of total draw_of round_of xor_left xor_right seed_of nonzero step_of
known_draws = record {
  step0 = refl;
  step2 = refl;
  one_round = refl;
  two_rounds = refl;
  three_rounds = refl;
  draw = refl;
  zero_sum = refl;
  zero_seed = refl;
  weights102 = refl;
  weights202 = refl;
  weights005 = refl;
  weights000 = refl;
}
