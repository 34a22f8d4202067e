-- What the loop of `bench::feed` keeps: what has been run of the block has been fed.
-- Assumes nothing.
use Prim.Native.Nat.{◌-◌, ◌≤◌}
use lib.ListN.{length, take}
use Rattle.frame.specs.Blocks.{feed}
use Rattle.bench.specs.Held.{Leaves}
use Rattle.bench.proofs.feed.Given as goal

abbrev pub invariant-loop-at : goal.invariant-loop-at
invariant-loop-at l =
    (l.at ≤ length l.block) × Leaves (feed l.fn.b.device l.fn.line l.fn.b.length (take l.at l.block)) l.left.device l.line l.left.length

abbrev pub decreases-loop-at : goal.decreases-loop-at
decreases-loop-at l = length l.block - l.at
