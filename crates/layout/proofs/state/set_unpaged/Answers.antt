-- `layout::state::set_unpaged` meets its contract.
-- Assumes nothing.
use Rattle.std.proofs.Common.{arith}
use Rattle.layout.proofs.EightPages.{unpaged-wide}
use Rattle.layout.proofs.state.set_unpaged.Goals as goal

pub store-requires : goal.store-requires
store-requires c = rw unpaged-wide (omega arith)
