-- `retry::at_tick` meets its contract.
-- Assumes nothing.
use native.Mathlib.Omega.{arith}
use Rattle.retry.proofs.Bytes.{less-one_high, steps}
use Rattle.retry.proofs.at_tick.Goals as goal

pub returns-then-m-eq-REST : goal.returns-then-m-eq-REST
returns-then-m-eq-REST c = search steps

pub returns-then-m-ge-TRIPPED : goal.returns-then-m-ge-TRIPPED
returns-then-m-ge-TRIPPED c = search steps

pub returns-then-m-eq1 : goal.returns-then-m-eq1
returns-then-m-eq1 c = search steps

pub look-requires-then-m-eq0 : goal.look-requires-then-m-eq0
look-requires-then-m-eq0 c = rw c.less_one.ensures (less-one_high _ (omega arith))

pub returns-then-m-eq0 : goal.returns-then-m-eq0
returns-then-m-eq0 c = search steps

pub returns : goal.returns
returns c = search steps
