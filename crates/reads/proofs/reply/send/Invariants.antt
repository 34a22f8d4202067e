-- `reads::reply::send` meets its contract: before byte i those before it were stored.
-- Assumes nothing.
use Rattle.std.proofs.Common.{◌≡◌, ℕ, ◌<◌, get_or, length}
use Rattle.reads.proofs.reply.send.Given as goal

abbrev pub invariant-loop-i : goal.invariant-loop-i
invariant-loop-i l = (length l.reply ≡ length l.initial.reply) × ((k : ℕ) → k < l.i → get_or l.reply k 0 ≡ get_or l.bytes k 255)
