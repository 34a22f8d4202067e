-- `buffer::stopping::finished` meets its contract.
-- Assumes nothing.
use Rattle.std.proofs.Common.{◌∙◌}
use Rattle.buffer.proofs.Calling.{read_made}
use Rattle.buffer.proofs.stopping.finished.Goals as goal

pub returns : goal.returns
returns c =
    let r =
    read_made _ c.requires _ c.unpaged_of-u.ensures _ _ _ _ c.shown-k.ensures _ c.page_at-p.ensures (c.number-answer.ensures ∙ c.read_answer.ensures) _ c.refuse.ensures in
    record { answer = r.0; left = r.1 }
