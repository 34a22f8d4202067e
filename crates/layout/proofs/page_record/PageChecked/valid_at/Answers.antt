-- `layout::page_record::PageChecked::valid_at` meets its contract.
-- Assumes nothing.
use Rattle.std.proofs.Common.{arith}
use Rattle.layout.proofs.Tested.{page-tests}
use Rattle.layout.proofs.page_record.PageChecked.valid_at.Goals as goal

pub load-machines-requires : goal.load-machines-requires
load-machines-requires c = omega arith

pub returns-then-all_valid : goal.returns-then-all_valid
returns-then-all_valid c = rw (← page-tests c.args.s.now c.args.at) (grind arith)

pub returns-else-all_valid : goal.returns-else-all_valid
returns-else-all_valid c = rw (← page-tests c.args.s.now c.args.at) (grind arith)
