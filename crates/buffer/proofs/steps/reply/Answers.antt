-- `buffer::steps::reply` meets its contract.
-- Assumes nothing.
use Rattle.buffer.proofs.Ending.{reply-is}
use Rattle.buffer.proofs.steps.reply.Goals as goal

pub returns : goal.returns
returns c =
    reply-is _ c.requires _ _ _ _ c.unpaged_of-u.ensures c.shown-k.ensures c.page_at-page.ensures (rw c.from-e.ensures at c.reply.ensures)
