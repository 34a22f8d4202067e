-- `buffer::calls::supplying` meets its contract.
-- Assumes nothing.
use Rattle.std.proofs.Common.{ap, ◌∙◌}
use Rattle.page.specs.Status.{supplies}
use Rattle.buffer.proofs.Calling.{supplies-at}
use Rattle.buffer.proofs.calls.supplying.Goals as goal

pub returns : goal.returns
returns c = c.supplies.ensures ∙ ap supplies c.page_at.ensures ∙ supplies-at _ _
