-- `some_words::call_some` meets its contract: by whether the runs are long enough, then on the words of the table, which are in front.
use mathlib.Core.Path.{refl, sym, ◌∙◌}
use Rattle.lists.specs.Below.{nth}
use Rattle.encoding.specs.Encoding.{burns_offset}
use Rattle.history.specs.Machine.{State}
use Rattle.dispatch.specs.SomeBurns.{some_reply, some_next}
use Rattle.dispatch.proofs.Some.{some_small}
use Rattle.call_words.proofs.Calling.{short_table, short_call, call_lengths, call_done}
use Rattle.some_words.specs.SomeWords.{after_some}
use Rattle.some_words.proofs.call_some.Goals as goal

pub returns-then-not-fits : goal.returns-then-not-fits
unfolding after_some
returns-then-not-fits c =
    rw (short_call c.args.table.now c.args.call.now c.args.reply.now (sym c.fits.ensures ∙ c.if-not-fits.true)) (record { number = refl; table = refl; medium = refl; reply = refl })

pub returns-in_default : goal.returns-in_default
unfolding after_some
returns-in_default c =
    rw (short_table c.args.table.now c.args.call.now c.args.reply.now c.in_default.ensures.cases) (record { number = refl; table = refl; medium = refl; reply = refl })

pub store-requires : goal.store-requires
store-requires c = record {
  reply_length_in_bounds = (call_lengths _ _ (sym c.fits.ensures ∙ c.if-not-fits.false)).1;
  server_bound = some_small _ _ _ c.run-told.ensures.reply;
}

pub returns : goal.returns
unfolding after_some
returns c =
    let a = c.args in
    let o = c.call_from.result in
    let d = call_done a.table.now a.medium.now a.call.now a.reply.now (λ (S : State). some_reply S o) (λ (S : State). some_next S o (nth a.call.now burns_offset)) (sym c.fits.ensures ∙ c.if-not-fits.false) c.in-Some.words.now _ _ _ _ c.in-Some.ensures.cases c.run-told.ensures.reply c.run-told.ensures.table c.run-told.ensures.medium c.store.ensures in
    rw (← c.call_from.ensures) (record { number = d.0; table = d.1.0; medium = d.1.1.0; reply = d.1.1.1 })
