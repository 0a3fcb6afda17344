-- `printing::put_answer` meets its contract: three numbers, each with room for ten digits and what follows.
use Rattle.std.proofs.Common.{ℕ, arith}
use Rattle.std.proofs.Math.ListN.{length-set}
use Rattle.printing.proofs.Printing.{decimal-short, put-line, length-line}
use Rattle.printing.proofs.put_answer.Goals as goal

-- each number leaves room for what follows: it has at most ten digits
pub bounds-out-one : goal.bounds-out-one
bounds-out-one c = omega (arith, length-set {A = ℕ}, decimal-short)

pub overflow_add-one : goal.overflow_add-one
overflow_add-one c = omega (arith, decimal-short)

pub put_number-two-requires : goal.put_number-two-requires
put_number-two-requires c = omega (arith, length-set {A = ℕ}, decimal-short)

pub bounds-out-two : goal.bounds-out-two
bounds-out-two c = omega (arith, length-set {A = ℕ}, decimal-short)

pub overflow_add-two : goal.overflow_add-two
overflow_add-two c = omega (arith, decimal-short)

pub put_number-three-requires : goal.put_number-three-requires
put_number-three-requires c = omega (arith, length-set {A = ℕ}, decimal-short)

pub bounds-out-three : goal.bounds-out-three
bounds-out-three c = omega (arith, length-set {A = ℕ}, decimal-short)

pub overflow_add-result : goal.overflow_add-result
overflow_add-result c = omega (arith, decimal-short)

pub returns-clause-next : goal.returns-clause-next
returns-clause-next c = omega (arith, length-line)

-- number after number makes the whole line
pub returns-clause-bytes : goal.returns-clause-bytes
returns-clause-bytes c =
    let a = c.args in
    let one = c.put_number-one in
    let two = c.put_number-two in
    let three = c.put_number-three in
    put-line a.out.now one.new.out two.new.out three.new.out a.at a.letter a.refusal a.first a.second one.result two.result three.result
    one.ensures.next one.ensures.bytes two.ensures.next two.ensures.bytes three.ensures.next three.ensures.bytes
