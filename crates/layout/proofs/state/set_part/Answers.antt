-- `layout::state::set_part` meets its contract.
-- Assumes nothing.
use Rattle.std.proofs.Common.{arith}
use Rattle.layout.proofs.EightPages.{part-wide}
use Rattle.layout.proofs.state.set_part.Goals as goal

pub store-requires : goal.store-requires
store-requires c = rw part-wide (omega arith)
