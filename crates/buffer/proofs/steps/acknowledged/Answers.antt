-- `buffer::steps::acknowledged` meets its contract.
-- Assumes nothing.
use Rattle.buffer.proofs.Ending.{ack_made}
use Rattle.buffer.proofs.steps.acknowledged.Goals as goal

pub returns : goal.returns
returns c = ack_made _ c.requires _ _ (rw c.from-e.ensures at c.ack_in.ensures)
