-- Where entries stand, and when one is live. Capacity is document 01's E, the entries of a server.
use Rattle.std.specs.Prelude.{ℕ, suc, ◌+◌, ◌*◌, ◌≤◌, ◌<◌, Bool, ◌&&◌, List, length, ltb, eqb}
use Rattle.limits.specs.Limits.{max_servers, max_capacity}
use Rattle.lists.specs.Below.{nth, all_below}
use Rattle.medium.specs.Word.{id_word, blank}

-- an entry has three words: its id's, its value's and its mark, which stand this far from its first word
abbrev pub entry_words : ℕ
entry_words = 3

abbrev pub value_place : ℕ
value_place = 1

abbrev pub mark_place : ℕ
mark_place = 2

-- the words of a server
abbrev pub server_words : ℕ → ℕ
server_words capacity = entry_words * capacity

-- server k has the words from here up to those of server k + 1
unfoldable pub server_at : ℕ → ℕ → ℕ
server_at capacity k = server_words capacity * k

-- entry j of server k begins here, with its id word
unfoldable pub entry_at : ℕ → ℕ → ℕ → ℕ
entry_at capacity k j = server_at capacity k + entry_words * j

abbrev pub value_at : ℕ → ℕ → ℕ → ℕ
value_at capacity k j = entry_at capacity k j + value_place

abbrev pub mark_at : ℕ → ℕ → ℕ → ℕ
mark_at capacity k j = entry_at capacity k j + mark_place

-- the entry that begins at an address bears an id by the medium alone: its id word is that id's and its mark is blank
unfoldable pub bears_at : List ℕ → ℕ → ℕ → Bool
bears_at m id at = eqb (nth m at) (id_word id) && eqb (nth m (at + mark_place)) blank

-- entry j of server k bears an id
abbrev pub bears : ℕ → List ℕ → ℕ → ℕ → ℕ → Bool
bears capacity m id k j = bears_at m id (entry_at capacity k j)

-- entry j of server k is live for an id: besides, it is below the server's used
unfoldable pub live : ℕ → ℕ → List ℕ → ℕ → ℕ → ℕ → Bool
live capacity used m id k j = ltb j used && bears capacity m id k j

-- the n words from an address on are blank
unfoldable pub blank_run : List ℕ → ℕ → ℕ → Bool
blank_run m from n = all_below (λ i. eqb (nth m (from + i)) blank) n

-- server k lies inside the medium, which is what the code has to know before it reads or burns there
pub record Inside (capacity k : ℕ) (m : List ℕ) : Type 0 where
  pub small : capacity ≤ max_capacity
  pub few : k < max_servers
  pub long : server_at capacity (suc k) ≤ length m

-- all of `count` servers with these entries used lie inside the medium
pub record AllInside (capacity count : ℕ) (used : ℕ → ℕ) (m : List ℕ) : Type 0 where
  pub small : capacity ≤ max_capacity
  pub few : count ≤ max_servers
  pub fits : (k : ℕ) → k < count → used k ≤ capacity
  pub long : server_at capacity count ≤ length m
