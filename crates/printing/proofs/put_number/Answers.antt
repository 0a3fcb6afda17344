-- `printing::put_number` meets its contract: it puts the digits that the library writes.
use Rattle.std.proofs.Common.{◌+◌, ap, ◌∙◌, arith}
use Rattle.std.proofs.Math.ListN.{length}
use Rattle.printing.proofs.Printing.{decimal-short, decimal_written, put_digits}
use Rattle.printing.proofs.put_number.Goals as goal

pub returns : goal.returns
returns c =
    let e = c.as_bytes-digits.ensures.value ∙ c.format.ensures.text ∙ decimal_written c.args.x (omega arith) in
    record {
      next = ap (λ l. c.args.at + length l) e;
      bytes = put_digits c.args.out.now _ c.args.at _ c.args.x (c.copy_from_slice.ensures.after ∙ e) (omega (arith, ap length e)) (omega (arith, decimal-short c.args.x));
    }
