-- `buffer::calls::ticked` meets its contract.
-- Assumes nothing.
use Rattle.buffer.proofs.Calling.{ticked-made}
use Rattle.buffer.proofs.calls.ticked.Goals as goal

pub returns : goal.returns
returns c =
    let r = ticked-made _ c.requires _ c.unpaged_of-u.ensures _ _ c.tick_each.ensures c.set_unpaged.ensures in
    record { answer = r.0; left = r.1 }
