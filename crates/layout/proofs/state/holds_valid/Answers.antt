-- `layout::state::holds_valid` meets its contract.
-- Assumes nothing.
use Rattle.std.proofs.Common.{arith}
use Rattle.layout.proofs.Decoded.{state-tests}
use Rattle.layout.proofs.state.holds_valid.Goals as goal

pub valid_at-requires : goal.valid_at-requires
valid_at-requires c = omega arith

pub returns-then-valid_at-2 : goal.returns-then-valid_at-2
returns-then-valid_at-2 c = rw (← state-tests c.args.s.now) (grind arith)

pub returns-else-valid_at-2 : goal.returns-else-valid_at-2
returns-else-valid_at-2 c = rw (← state-tests c.args.s.now) (grind arith)
