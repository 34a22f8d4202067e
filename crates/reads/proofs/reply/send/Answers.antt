-- `reads::reply::send` meets its contract.
-- Assumes nothing.
use Rattle.std.proofs.Common.{length, arith}
use Rattle.reads.proofs.Fill.{filled}
use Rattle.reads.proofs.reply.send.Goals as goal

pub returns : goal.returns
returns c =
    let h = c.loop-i in
    filled c.args.bytes.now h.reply (length c.args.reply.now) h.invariant.0 (λ k lt. h.invariant.1 k (omega arith))
