-- `device::alert_response` meets its contract.
-- Assumes nothing.
use Rattle.std.proofs.Common.{ℕ, List, length, sym, ap, ◌∙◌, refl}
use Rattle.reads.specs.Reply.{reply_of, alert_stream}
use Rattle.device.specs.Step.{alert_response, answer_of, effect, sent}
use Rattle.device.proofs.Calls.{answer-made, stepped, done_left, refused_left, replied}
use Rattle.device.proofs.alert_response.Goals as goal

pub returns-in-Ok : goal.returns-in-Ok
unfolding answer_of effect sent
returns-in-Ok c =
    let a = c.args in
    let d = a.d in
    let n = length a.reply.now in
    let made = answer-made d (alert_response n) _ _ _ c.is_valid.ensures (c.alert_answer-rule.ensures) (c.number-number.ensures ∙ c.checked-answer.ensures.answer) in
    record {
      value = stepped d (alert_response n) _ _ made (done_left d (alert_response n) _ _ (rw c.in-Ok.is at c.number-number.ensures) (refl));
      reply_after = replied d (alert_response n) _ _ _ made (c.alert_stream-stream.ensures ∙ ap alert_stream (sym c.number-number.ensures)) (c.send.ensures ∙ ap (λ (l : List ℕ). reply_of l n) c.as_slice.ensures);
    }

pub returns-in-Err : goal.returns-in-Err
unfolding answer_of effect sent
returns-in-Err c =
    let a = c.args in
    let d = a.d in
    let n = length a.reply.now in
    let made = answer-made d (alert_response n) _ _ _ c.is_valid.ensures (c.alert_answer-rule.ensures) (c.number-number.ensures ∙ c.checked-answer.ensures.answer) in
    record {
      value = stepped d (alert_response n) _ _ made (refused_left d (alert_response n) c.in-Err.refusal _ _ (rw c.in-Err.is at c.number-number.ensures) c.refuse.ensures);
      reply_after = replied d (alert_response n) _ _ _ made (c.alert_stream-stream.ensures ∙ ap alert_stream (sym c.number-number.ensures)) (c.send.ensures ∙ ap (λ (l : List ℕ). reply_of l n) c.as_slice.ensures);
    }
