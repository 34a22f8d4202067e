-- `buffer::stopping::disordered` meets its contract.
-- Assumes nothing.
use Rattle.buffer.proofs.Calling.{disorder-made}
use Rattle.buffer.proofs.stopping.disordered.Goals as goal

pub returns-clause-left : goal.returns-clause-left
returns-clause-left c = disorder-made _ _ c.refuse.ensures
