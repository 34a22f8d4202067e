-- `buffer::calls::powered` meets its contract.
-- Assumes nothing.
use Rattle.std.proofs.Common.{rules}
use Rattle.buffer.proofs.Powering.{powered-made}
use Rattle.buffer.proofs.calls.powered.Goals as goal

pub returns : goal.returns
returns c = powered-made _ (search rules) _ _ c.started.ensures c.power_on_each.ensures
