-- `device::sample` meets its contract.
-- Assumes nothing.
use Rattle.std.proofs.Common.{ap, ◌∙◌}
use Rattle.account.specs.declared.Account.{Account}
use Rattle.unpaged.specs.Unpaged.{with_energy}
use Rattle.device.specs.Device.{device}
use Rattle.device.specs.Step.{sample, answer_of, effect}
use Rattle.device.proofs.Calls.{answer-made, stepped, done_left, refused_left}
use Rattle.device.proofs.sample.Goals as goal

pub returns-in-Ok : goal.returns-in-Ok
unfolding answer_of effect
returns-in-Ok c =
    let a = c.args in
    let d = a.d in
    let made = answer-made d (sample a.power) _ _ _ c.is_valid.ensures (c.sample-rule.ensures.answer) (c.number-number.ensures ∙ c.checked-answer.ensures.answer) in
    stepped d (sample a.power) _ _ made (done_left d (sample a.power) _ _ (rw c.in-Ok.is at c.number-number.ensures) (ap (λ (e : Account). device (with_energy d.unpaged e) d.pages) (rw c.in-Ok.ensures.given at c.sample-rule.ensures.account)))

pub returns-in-Err : goal.returns-in-Err
unfolding answer_of effect
returns-in-Err c =
    let a = c.args in
    let d = a.d in
    let made = answer-made d (sample a.power) _ _ _ c.is_valid.ensures (c.sample-rule.ensures.answer) (c.number-number.ensures ∙ c.checked-answer.ensures.answer) in
    stepped d (sample a.power) _ _ made (refused_left d (sample a.power) c.in-Err.refusal _ _ (rw c.in-Err.is at c.number-number.ensures) c.refuse.ensures)
