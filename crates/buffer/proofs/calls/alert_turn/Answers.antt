-- `buffer::calls::alert_turn` meets its contract.
-- Assumes nothing.
use Rattle.std.proofs.Common.{◌∙◌}
use Rattle.lent.proofs.Known.{alert_known}
use Rattle.buffer.proofs.Calling.{alert_made}
use Rattle.buffer.proofs.calls.alert_turn.Goals as goal

pub returns : goal.returns
returns c =
    alert_made _ c.requires _ c.unpaged_of-u.ensures c.args.n _ (λ ps e. alert_known _ _ _ _ c.alert_turn.ensures ps (c.eight_valid-seen.ensures ∙ e))
