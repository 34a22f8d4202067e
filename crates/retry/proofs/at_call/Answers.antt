-- `retry::at_call` meets its contract.
-- Assumes nothing.
use Rattle.retry.proofs.Bytes.{steps}
use Rattle.retry.proofs.at_call.Goals as goal

pub returns-then-present : goal.returns-then-present
returns-then-present c = search steps

pub returns-then-m-eq-REST : goal.returns-then-m-eq-REST
returns-then-m-eq-REST c = search steps

pub returns-then-m-ge-TRIPPED : goal.returns-then-m-ge-TRIPPED
returns-then-m-ge-TRIPPED c = search steps

pub returns : goal.returns
returns c = search steps
