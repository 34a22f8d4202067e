-- `layout::state::part_of` meets its contract.
-- Assumes nothing.
use Rattle.std.proofs.Common.{arith}
use Rattle.layout.proofs.EightPages.{part-wide}
use Rattle.layout.proofs.state.part_of.Goals as goal

pub load-requires : goal.load-requires
load-requires c = rw part-wide (omega arith)
