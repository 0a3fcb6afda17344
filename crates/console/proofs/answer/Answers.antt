-- `console::answer` meets its contract: a sheet's output, or the question mark alone. The longest sheet's output has room in the buffer
-- that is lent, so there is room for what any number of bytes prints.
use Rattle.std.proofs.Common.{ℕ, ◌≤◌, arith, refl}
use Rattle.printing.specs.Print.{question}
use Rattle.sheet.specs.Sheet.{output_room}
use Rattle.sheet.proofs.Sheets.{room-enough, output-fits}
use Rattle.console.proofs.Answering.{to-bytes, to-failure}
use Rattle.console.proofs.answer.Goals as goal

room-lent : (n l : ℕ) → 2293760 ≤ l → output_room n ≤ l
room-lent n l h = omega (arith, room-enough n)

pub returns-in_default : goal.returns-in_default
unfolding question
returns-in_default c =
    let asked = to-failure c.args.read c.args.input.now c.args.medium.now c.in_default.is in
    record {
      number = rw asked (omega (arith, c.put_question.ensures.next));
      bytes = rw asked c.put_question.ensures.bytes;
      words = rw asked refl;
      inside = omega (arith, c.put_question.ensures.next, c.requires.max_input_in_bounds);
    }

pub run-requires : goal.run-requires
run-requires c = room-lent _ _ c.requires.max_input_in_bounds

pub returns : goal.returns
returns c =
    let run = to-bytes c.args.read c.args.input.now c.args.medium.now c.in-Some.n c.in-Some.is in
    record {
      number = rw run c.run.ensures.number;
      bytes = rw run c.run.ensures.bytes;
      words = rw run c.run.ensures.words;
      inside = output-fits _ _ _ _ c.run.ensures.number (room-lent _ _ c.requires.max_input_in_bounds);
    }
