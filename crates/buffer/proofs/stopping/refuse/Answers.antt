-- `buffer::stopping::refuse` meets its contract.
-- Assumes nothing.
use Rattle.buffer.proofs.Calling.{refused-made}
use Rattle.buffer.proofs.stopping.refuse.Goals as goal

pub returns : goal.returns
returns c = refused-made _ c.requires _ _ _ _ c.unpaged_of-u.ensures c.refused.ensures c.set_unpaged.ensures
