-- `reads::reply::Stream::new` meets its contract: before byte i those before it were stored.
-- Assumes nothing.
use Rattle.std.proofs.Common.{◌≡◌, ◌++◌, take, drop, replicate}
use Rattle.reads.proofs.reply.Stream.new.Given as goal

abbrev pub invariant-loop-i : goal.invariant-loop-i
invariant-loop-i l = l.buffer ≡ take l.i l.bytes ++ drop l.i (replicate 8 0)
