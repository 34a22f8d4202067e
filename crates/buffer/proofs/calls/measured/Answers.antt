-- `buffer::calls::measured` meets its contract.
-- Assumes nothing.
use Rattle.std.proofs.Common.{◌∙◌}
use Rattle.lent.proofs.Known.{measure_known}
use Rattle.buffer.proofs.Calling.{measured-made}
use Rattle.buffer.proofs.calls.measured.Goals as goal

pub returns : goal.returns
returns c =
    let r =
    measured-made _ c.requires _ c.unpaged_of-u.ensures _ _ _ _ _ c.page_at-p.ensures
    (λ ps e. measure_known _ _ _ _ _ _ _ c.measure_turn-turn.ensures ps (c.eight_valid-seen.ensures ∙ e)) _ _ c.put_page.ensures c.set_unpaged.ensures in
    record { answer = r.0; left = r.1 }
