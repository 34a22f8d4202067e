-- `reads::reply::Stream::new` meets its contract.
-- Assumes nothing.
use Rattle.std.proofs.Common.{◌≡◌, ◌++◌, length, drop, replicate, arith}
use native.Mathlib.Nat.{le_refl}
use lib.Seq.{take_all}
use Rattle.reads.proofs.Streams.{is-stream}
use Rattle.reads.proofs.reply.Stream.new.Goals as goal

pub invariant_of-result : goal.invariant_of-result
invariant_of-result c =
    let l = c.args.bytes.now in
    let i : c.loop-i.i ≡ length l = omega arith in
    let filled : c.loop-i.buffer ≡ l ++ drop (length l) (replicate 8 0) = rw (i, take_all (length l) l (le_refl _)) at c.loop-i.invariant in
    rw filled (is-stream l c.requires)
