-- `layout::pages::set_page` meets its contract.
-- Assumes nothing.
use Rattle.std.proofs.Common.{arith}
use Rattle.layout.proofs.EightPages.{wide}
use Rattle.layout.proofs.pages.set_page.Goals as goal

pub store-requires : goal.store-requires
store-requires c = rw wide (omega arith)
