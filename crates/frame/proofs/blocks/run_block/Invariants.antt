-- `frame::blocks::run_block` meets its contract.
-- Assumes nothing.
use Prim.Native.Nat.{◌-◌}
use lib.ListN.{length}
use Rattle.frame.proofs.Running.{Running}
use Rattle.frame.proofs.blocks.run_block.Given as goal

abbrev pub invariant-loop-p : goal.invariant-loop-p
invariant-loop-p l =
    Running l.fn.d l.initial.line l.n l.block l.at l.initial.out l.line l.out l.p.device l.p.length l.p.next l.p.written

abbrev pub decreases-loop-p : goal.decreases-loop-p
decreases-loop-p l = length l.block - l.p.next
