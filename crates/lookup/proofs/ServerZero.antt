-- Server 0 is always readable, so a lookup that comes to its search opens a server.
-- Assumes nothing.
use Prim.Native.Nat.{ℕ, ◌<◌}
use mathlib.Core.Path.{◌≡◌, refl}
use mathlib.Core.Bool.{true}
use mathlib.Core.List.{List}
use Rattle.std.specs.Prelude.{Option, None, Some}
use native.Mathlib.Omega.{arith}
use lib.ListN.{length}
use borrow.Author.Tests.{le-leb, eqb-false}
use Rattle.lists.proofs.Below.{count_below-less}
use Rattle.draws.specs.Draw.{modulus, draw_of}
use Rattle.draws.proofs.Draws.{draw<}
use Rattle.placement.specs.Rule.{write_p, takes, readable}
use Rattle.placement.proofs.Fractions.{exceeds-grows}
use Rattle.placement.proofs.Rules.{zero-takes}
use Rattle.table.specs.declared.Table.{Table}
use Rattle.table.specs.Parts.{weight_of, read_p, reads}
use Rattle.table.specs.Sound.{sound}
use Rattle.table.proofs.Soundness.{sound-facts}
use Rattle.replies.specs.Refusal.{first_of}
use Rattle.checks.proofs.Passed.{asked-tests}
use Rattle.search.specs.declared.Place.{Place}
use Rattle.search.specs.Search.{search_for}
use Rattle.lookup.specs.Lookup.{lookup_rows}
use Rattle.search.specs.Opened.{lowest, opens}
use Rattle.lookup.proofs.Passed.{lookup-accepted}
use Rattle.search.proofs.Searches.{met_some, opened-are}

-- its ReadP is at least its WriteP, which is 1/1 and exceeds every draw
pub zero-read : (t : Table) → sound t ≡ true → 0 < t.count → (id : ℕ) → reads t id 0 ≡ true
unfolding readable takes
zero-read t s l id =
    let k = (sound-facts t s).server 0 l in
    exceeds-grows modulus (write_p (weight_of t) 0) (read_p t 0) (draw_of t.salt id 0) k.positive k.reads (zero-takes modulus (draw_of t.salt id) (weight_of t) (draw< t.salt id 0))

module _ (t : Table) (m : List ℕ) (tenant id : ℕ) (z : first_of (lookup_rows t m tenant id) ≡ 0) where
  some-server : 0 < t.count
  unfolding lookup_rows
  some-server = omega (arith, eqb-false t.count 0 (asked-tests t m tenant id _ z).none)

  -- the server where the search ends is there and is opened
  pub ends_there : (lowest (search_for t m id).met < t.count) × (opens t m id (lowest (search_for t m id).met) ≡ true)
  unfolding opens lowest
  ends_there = go (search_for t m id).met refl
    where
      go : (o : Option Place) → (search_for t m id).met ≡ o → (lowest o < t.count) × (opens t m id (lowest o) ≡ true)
      go None e = (some-server, rw (e, le-leb 0 0 (omega arith)) (zero-read t (lookup-accepted t m tenant id z).is_sound some-server id))
      go (Some p) e = let i = met_some t m id p e in (i.below, rw (e, le-leb p.server p.server (omega arith)) i.is_read)

  pub opens-some : 0 < length (search_for t m id).opened
  opens-some = omega (arith, (opened-are t m id).number, count_below-less (opens t m id) t.count _ ends_there.0 ends_there.1)
