-- `lookup::lookup_in` meets its contract: what the tests say, and what the search met.
use Prim.Native.Nat.{ℕ}
use mathlib.Core.Path.{◌≡◌, ◌∙◌}
use mathlib.Core.Bool.{false}
use native.Mathlib.Omega.{arith}
use mathlib.Core.List.{List}
use Rattle.std.specs.Prelude.{Result, Ok}
use Rattle.table.specs.declared.Table.{Table}
use Rattle.replies.specs.declared.Refusal.{Refusal}
use Rattle.checks.specs.Ready.{asked_rows}
use Rattle.table.specs.Parts.{table_of}
use Rattle.replies.specs.Refusal.{first_of}
use Rattle.replies.specs.Reply.{check_number, number_of, found_or, reply_of_lookup}
use Rattle.replies.proofs.Answers.{check-refused, check-accepted}
use Rattle.lookup.specs.Lookup.{lookup_rows}
use Rattle.lookup.proofs.Passed.{lookup-accepted}
use Rattle.lookup.proofs.Looked.{looked-none, looked-some, met-place, lookup-refused}
use Rattle.lookup.proofs.lookup_in.Goals as goal

pub returns-in-Err : goal.returns-in-Err
unfolding reply_of_lookup found_or lookup_rows
returns-in-Err c = lookup-refused _ _ _ _ _ (check-refused _ c.asked.ensures c.in-Err.is)

-- no row applies where the tests accept
accepted : (t : Table) (m : List ℕ) (tenant id : ℕ) {a : Result (Unit {0}) Refusal} {u : Unit {0}} → check_number a ≡ first_of (asked_rows t m tenant id false) → a ≡ Ok u → first_of (lookup_rows t m tenant id) ≡ 0
unfolding lookup_rows
accepted t m tenant id e f = check-accepted (asked_rows t m tenant id false) e f

pub find-answer-requires : goal.find-answer-requires
find-answer-requires c = (lookup-accepted _ _ _ _ (accepted _ _ _ _ c.asked.ensures c.in_default.is)).inside

pub bounds-table-place : goal.bounds-table-place
bounds-table-place c = (met-place (table_of c.args.table.now) _ _ _ (accepted _ _ _ _ c.asked.ensures c.in_default.is) c.find-answer.ensures _ c.in-Some.is).below

pub offset_bounds-table-place : goal.offset_bounds-table-place
offset_bounds-table-place c = omega (arith, (met-place (table_of c.args.table.now) _ _ _ (accepted _ _ _ _ c.asked.ensures c.in_default.is) c.find-answer.ensures _ c.in-Some.is).below)

pub invariant_of-server : goal.invariant_of-server
invariant_of-server c =
    let p = met-place (table_of c.args.table.now) _ _ _ (accepted _ _ _ _ c.asked.ensures c.in_default.is) c.find-answer.ensures _ c.in-Some.is in
    record { inside = p.inside; few = p.fits }

pub met-requires : goal.met-requires
met-requires c = (met-place (table_of c.args.table.now) _ _ _ (accepted _ _ _ _ c.asked.ensures c.in_default.is) c.find-answer.ensures _ c.in-Some.is).entry

pub returns-in-None : goal.returns-in-None
unfolding reply_of_lookup found_or number_of
returns-in-None c = looked-none _ _ _ _ (accepted _ _ _ _ c.asked.ensures c.in_default.is) c.find-answer.ensures c.in-None.is

pub returns-in-Some : goal.returns-in-Some
unfolding reply_of_lookup
returns-in-Some c =
    c.met.ensures c.find-answer.result.opened
    ∙ looked-some (table_of c.args.table.now) _ _ _ (accepted _ _ _ _ c.asked.ensures c.in_default.is) c.find-answer.ensures _ c.in-Some.is
