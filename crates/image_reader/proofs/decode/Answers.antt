-- `image_reader::decode` meets its contract: what is refused is the table of all zeros.
use Rattle.std.proofs.lemmas.Result.{err_from_is_err_and}
use Rattle.replies.specs.Reply.{reply_of_check}
use Rattle.image_reader.proofs.Refused.{refused_zeros}
use Rattle.image_reader.proofs.decode.Goals as goal

pub returns-in_err-decode_into-clause-table : goal.returns-in_err-decode_into-clause-table
unfolding reply_of_check
returns-in_err-decode_into-clause-table c =
    let p = err_from_is_err_and c.from_residual.result c.from_residual.ensures.1 in
    rw p.1 (refused_zeros c.args.image.now _ c.in_err-decode_into.ensures.reply)
