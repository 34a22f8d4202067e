-- `device::steps::ticked` meets its contract: the pages passed have ticked, the others are as they were.
-- Assumes nothing.
use Rattle.std.proofs.Common.{◌≡◌, ◌++◌, take, drop, map}
use Rattle.page.specs.Causes.{ticked}
use Rattle.device.proofs.steps.ticked.Given as goal

abbrev pub invariant-loop-p : goal.invariant-loop-p
invariant-loop-p l = l.p-items ≡ map ticked (take l.p-index l.fn.d.pages) ++ drop l.p-index l.fn.d.pages
