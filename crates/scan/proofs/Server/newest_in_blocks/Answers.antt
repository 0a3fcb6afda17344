-- `scan::Server::newest_in_blocks` meets its contract. The invariant: the highest live entry is one of those left.
use Rattle.std.proofs.Common.{◌≡◌, ◌+◌, ◌*◌, ◌-◌, ◌%◌, sym, ◌∙◌, arith}
use Rattle.scan.proofs.Passing.{block-inside, passed-by-words}
use Rattle.scan.proofs.Server.newest_in_blocks.Goals as goal

pub has-requires : goal.has-requires
has-requires c =
    let a = c.args.self.now in
    block-inside a.capacity a.used a.medium.now c.args.id a.number 32 _ (omega arith) c.entry_at-from.ensures a.inside a.few

pub loop-block-preserved : goal.loop-block-preserved
loop-block-preserved c =
    let a = c.args.self.now in
    let top : a.used % 32 + 32 * c.loop-block.block ≡ a.used % 32 + 32 * (c.loop-block.block - 1) + 32 = omega arith in
    rw top at c.loop-block.invariant
    ∙ passed-by-words a.capacity a.used a.medium.now c.args.id a.number 32 _ (omega arith) c.entry_at-from.ensures (sym c.has.ensures ∙ c.if-has.false)
