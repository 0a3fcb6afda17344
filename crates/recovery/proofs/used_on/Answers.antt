-- `recovery::used_on` meets its contract: one past the first entry from the highest down that has a word which is not blank.
use Rattle.std.proofs.Common.{◌<◌, ◌∙◌, sym, arith, rules}
use borrow.Author.Tests.{tests}
use Rattle.std.proofs.lemmas.Iterator.Adapters.{serves_from_places, option_map_id}
use Rattle.std.proofs.lemmas.Iterator.Search.{find_from_yields_List}
use Rattle.medium.proofs.Places.{entry-inside}
use Rattle.medium.proofs.Down.{YieldsList-from_rev_range, length-downs, downs-below, find-downs}
use Rattle.recovery.specs.Recovery.{touched, used_on}
use Rattle.recovery.proofs.Recovering.{past_last-found}
use Rattle.recovery.proofs.used_on.Goals as goal

pub find-requires-clause-callable : goal.find-requires-clause-callable
find-requires-clause-callable c =
    let a = c.args in
    serves_from_places (YieldsList-from_rev_range a.capacity c.rev.ensures.source) (λ x q k. search (rules, tests))
    (λ x k l e.
    let below : x < a.capacity = omega (arith, e, downs-below a.capacity k x (omega (arith, length-downs 0 a.capacity))) in
    let inside = entry-inside a.capacity a.server x 2 a.medium.now c.requires below (omega arith) in
    let small = c.requires.small in
    let there = c.requires.few in
    search rules)

pub returns : goal.returns
unfolding used_on touched
returns c =
    let a = c.args in
    let found = sym (option_map_id c.find.result)
    ∙ find_from_yields_List (touched a.capacity a.medium.now a.server) _ _ c.find.result c.find.ensures.ran (YieldsList-from_rev_range a.capacity c.rev.ensures.source) (λ x b q k. search (rules, tests))
    ∙ find-downs _ a.capacity
    in
    past_last-found _ a.capacity c.find.result c.map_or.result found c.map_or.ensures (λ j q. search rules)
