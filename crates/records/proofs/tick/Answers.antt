-- `records::tick` meets its contract.
-- Assumes nothing.
use Rattle.std.proofs.Common.{arith}
use Rattle.laws.proofs.Sweeps.{swept_more}
use Rattle.page.specs.Causes.{ticked}
use Rattle.records.proofs.tick.Goals as goal

pub loop-p-preserved : goal.loop-p-preserved
loop-p-preserved c = swept_more ticked _ c.args.pages.now c.loop-p.pages c.loop-p.p-index c.loop-p.invariant c.ticked.result (omega arith) c.ticked.ensures
