-- `buffer::calls::alert_response` meets its contract.
-- Assumes nothing.
use Rattle.std.proofs.Common.{refl, ◌∙◌}
use Rattle.device.specs.Step.{alert_response}
use Rattle.device.specs.Touches.{touches}
use Rattle.buffer.proofs.Held.{was_held, call_refused, none-sent, call_taken, call_sent}
use Rattle.buffer.proofs.Stored.{unpaged-alone, untouched}
use Rattle.buffer.proofs.calls.alert_response.Goals as goal

pub alerted-requires : goal.alerted-requires
alerted-requires c = was_held _ _ c.in-Some.ensures.cases

pub returns-in-Some : goal.returns-in-Some
unfolding touches
returns-in-Some c =
    let h = c.in-Some.ensures.cases in
    let r = c.alerted.ensures in
    let t = call_taken _ _ h (alert_response _) _ _ r.answer (r.left ∙ unpaged-alone _ _ _ (untouched _ (alert_response _) (λ i. refl))) in
    (t.0, (t.1, call_sent _ _ h (alert_response _) _ r.sends))

pub returns-in-None : goal.returns-in-None
returns-in-None c =
    let n = c.in-None.ensures.cases in
    let r = c.nothing_sent.ensures in
    let t = call_refused _ n (alert_response _) in
    (r.answer ∙ t.0, (t.1, none-sent _ n (alert_response _) _ r.sends))
