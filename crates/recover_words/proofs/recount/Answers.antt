-- `recover_words::recount` meets its contract: the column of the entries used is a part of the words.
use native.Mathlib.Omega.{arith}
use Rattle.recover_words.proofs.Recounting.{shape-fits, recounted-words}
use Rattle.recover_words.proofs.recount.Goals as goal

pub recount-requires : goal.recount-requires
recount-requires c =
    let f = shape-fits c.args.words.now c.args.medium.now c.shape_of-shape.result c.shape_of-shape.ensures (omega (arith, c.told-words)) c.requires.words_value c.requires.words_in_bounds in
    record { capacity_le_max_capacity = f.0; count_in_bounds = f.1 }

pub returns : goal.returns
returns c =
    recounted-words c.args.words.now c.args.medium.now c.shape_of-shape.result c.shape_of-shape.ensures (omega (arith, c.told-words)) _ c.recount.ensures
