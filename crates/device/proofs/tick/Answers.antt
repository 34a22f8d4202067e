-- `device::tick` meets its contract.
-- Assumes nothing.
use Rattle.std.proofs.Common.{◌∙◌, refl}
use Rattle.device.specs.Step.{tick, answer_of, effect}
use Rattle.device.proofs.Calls.{answer-made, stepped, done_left, refused_left}
use Rattle.device.proofs.tick.Goals as goal

pub returns-in-Ok : goal.returns-in-Ok
unfolding answer_of effect
returns-in-Ok c =
    let a = c.args in
    let d = a.d in
    let made = answer-made d (tick) _ _ _ c.is_valid.ensures (refl) (c.number-number.ensures ∙ c.checked-answer.ensures.answer) in
    stepped d (tick) _ _ made (done_left d (tick) _ _ (rw c.in-Ok.is at c.number-number.ensures) (c.ticked.ensures))

pub returns-in-Err : goal.returns-in-Err
unfolding answer_of effect
returns-in-Err c =
    let a = c.args in
    let d = a.d in
    let made = answer-made d (tick) _ _ _ c.is_valid.ensures (refl) (c.number-number.ensures ∙ c.checked-answer.ensures.answer) in
    stepped d (tick) _ _ made (refused_left d (tick) c.in-Err.refusal _ _ (rw c.in-Err.is at c.number-number.ensures) c.refuse.ensures)
