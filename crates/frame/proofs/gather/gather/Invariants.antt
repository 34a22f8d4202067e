-- `frame::gather::gather` meets its contract: what is left of the block gives the whole.
-- Assumes nothing.
use Rattle.frame.proofs.Gathering.{Gathers}
use Rattle.frame.proofs.gather.gather.Given as goal

abbrev pub invariant-loop-i : goal.invariant-loop-i
invariant-loop-i l = Gathers l.initial.line l.n l.block l.line l.length l.i
