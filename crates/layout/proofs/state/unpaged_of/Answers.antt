-- `layout::state::unpaged_of` meets its contract.
-- Assumes nothing.
use Rattle.std.proofs.Common.{arith}
use Rattle.layout.proofs.EightPages.{unpaged-wide}
use Rattle.layout.proofs.state.unpaged_of.Goals as goal

pub load-requires : goal.load-requires
load-requires c = rw unpaged-wide (omega arith)
