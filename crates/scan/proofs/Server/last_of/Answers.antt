-- `scan::Server::last_of` meets its contract: the first of the entries that bears the id from the highest down.
use Rattle.std.proofs.Common.{◌+◌, ◌<◌, ◌∙◌, sym, arith, rules}
use borrow.Author.Tests.{tests}
use Rattle.std.proofs.lemmas.Iterator.Adapters.{serves_from_places, option_map_id}
use Rattle.std.proofs.lemmas.Iterator.Search.{find_from_yields_List}
use Rattle.medium.specs.Entry.{entry_at, bears_at}
use Rattle.medium.proofs.Places.{entry-inside}
use Rattle.medium.proofs.Down.{YieldsList-from_rev_range, length-downs, downs-below, find-downs}
use Rattle.scan.proofs.Server.last_of.Goals as goal

pub find-requires-clause-callable : goal.find-requires-clause-callable
find-requires-clause-callable c =
    let a = c.args.self.now in
    serves_from_places (YieldsList-from_rev_range c.args.n c.rev.ensures.source) (λ x q k. search (rules, tests))
    (λ x k l e.
    let below : x < c.args.n = omega (arith, e, downs-below c.args.n k x (omega (arith, length-downs 0 c.args.n))) in
    let inside = entry-inside a.capacity a.number (c.args.low + x) 2 a.medium.now a.inside (omega (arith, c.requires, a.few)) (omega arith) in
    let few = c.requires in
    let high = a.few in
    let small = a.inside.small in
    let there = a.inside.few in
    search rules)

pub returns : goal.returns
returns c =
    let a = c.args.self.now in
    sym (option_map_id c.find.result)
    ∙ find_from_yields_List (λ i. bears_at a.medium.now c.args.id (entry_at a.capacity a.number (c.args.low + i))) _ _ c.find.result c.find.ensures.ran (YieldsList-from_rev_range c.args.n c.rev.ensures.source) (λ x b q k. search (rules, tests))
    ∙ find-downs _ c.args.n
