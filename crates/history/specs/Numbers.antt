-- Servers keep their number (document 01, "The table"): what an add_server answered is the number of that server ever after.
use Rattle.std.specs.Prelude.{ℕ, ◌≤◌, ◌<◌, Bool, true, false, not, ◌&&◌, ◌≡◌, List, [], ◌∷◌, eqb}
use Rattle.table.specs.Parts.{weight_of, used_of}
use Rattle.history.specs.Call.{Call, add_server, reweight, write, delete, lookup, batch, Turn, plain, crashed_write, crashed_delete}
use Rattle.history.specs.Machine.{State, reply, next}

-- the call is no reweight of this server
unfoldable pub leaves_weight : ℕ → Call → Bool
leaves_weight k (reweight server weight) = not (eqb server k)
leaves_weight k (add_server weight) = true
leaves_weight k (write tenant id value) = true
leaves_weight k (delete tenant id) = true
leaves_weight k (lookup tenant id) = true
leaves_weight k (batch tenant ids) = true

-- no call of the list is
unfoldable pub weight_left : ℕ → List Turn → Bool
weight_left k [] = true
weight_left k (plain c ∷ turns) = leaves_weight k c && weight_left k turns
weight_left k (crashed_write tenant id value n beam ∷ turns) = weight_left k turns
weight_left k (crashed_delete tenant id n beam ∷ turns) = weight_left k turns

-- nothing crashes in the list, so that no recover is made
unfoldable pub nothing_crashes : List Turn → Bool
nothing_crashes [] = true
nothing_crashes (plain c ∷ turns) = nothing_crashes turns
nothing_crashes (crashed_write tenant id value n beam ∷ turns) = false
nothing_crashes (crashed_delete tenant id n beam ∷ turns) = false

-- server k of a state is server k of a later one: it is there, its words stand where they stood, ids draw on it as they drew, its
-- weight is the one that it had unless a call was a reweight of it, and where nothing
-- crashes its used has not fallen (a recover counts the words, of whatever medium there is)
pub record SameServer (S later : State) (turns : List Turn) (k : ℕ) : Type 0 where
  pub there : k < later.table.count
  pub capacity : later.table.capacity ≡ S.table.capacity
  pub salt : later.table.salt ≡ S.table.salt
  pub used : nothing_crashes turns ≡ true → used_of S.table k ≤ used_of later.table k
  pub weight : weight_left k turns ≡ true → weight_of later.table k ≡ weight_of S.table k

-- the server that an accepted add_server answers: the next number, and under it the new server with its weight
pub record Added (S : State) (weight : ℕ) : Type 0 where
  pub number : (reply S (add_server weight)).server ≡ S.table.count
  pub there : (reply S (add_server weight)).server < (next S (add_server weight)).table.count
  pub has_weight : weight_of (next S (add_server weight)).table (reply S (add_server weight)).server ≡ weight
