-- `retry::hold` meets its contract.
-- Assumes nothing.
use native.Mathlib.Omega.{arith}
use Rattle.retry.specs.Machine.{hold}
use Rattle.retry.specs.Byte.{byte_of}
use Rattle.retry.proofs.Bytes.{bytes, delay-high, hold-some}
use Rattle.retry.proofs.hold.Goals as goal

pub returns-then-tries-eq0 : goal.returns-then-tries-eq0
unfolding hold byte_of
returns-then-tries-eq0 c = search bytes

pub overflow_add-result : goal.overflow_add-result
overflow_add-result c = let high = delay-high c.args.response in omega (arith, c.delay-ticks.ensures)

pub returns : goal.returns
returns c = search (hold-some)
