-- `buffer::calls::chosen` meets its contract.
-- Assumes nothing.
use Rattle.std.proofs.Common.{rules}
use Rattle.buffer.proofs.Powering.{chosen_made}
use Rattle.buffer.proofs.calls.chosen.Goals as goal

pub returns : goal.returns
returns c = chosen_made _ _ (search rules) _ _ c.started.ensures c.choose_each.ensures
