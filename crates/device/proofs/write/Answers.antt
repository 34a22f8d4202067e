-- `device::write` meets its contract.
-- Assumes nothing.
use Rattle.std.proofs.Common.{◌≡◌, ℕ, length, sym, ap, ◌∙◌, rules}
use Rattle.laws.proofs.Folds.{length-mapped}
use Rattle.writes.specs.Answers.{write_answer}
use Rattle.device.specs.Step.{write, answer_of, effect, written}
use Rattle.device.proofs.Calls.{answer-made, stepped, done_left, refused_left, valid_page_lem}
use Rattle.device.proofs.States.{answered-valid}
use Rattle.device.proofs.write.Goals as goal

pub written-requires : goal.written-requires
unfolding answer_of
written-requires c =
    let a = c.args in
    let d = a.d in
    let long : length d.pages ≡ 8 = search (rules, length-mapped) in
    let made = answer-made d (write a.bytes.now) _ _ _ c.is_valid.ensures (c.judge-rule.ensures.answer ∙ ap (λ (n : ℕ). write_answer n d.unpaged a.bytes.now) (sym long)) c.in-Ok.ensures.answer in
    rw long at (valid_page_lem d (answered-valid d (write a.bytes.now) (sym made)))

pub returns-in-Ok : goal.returns-in-Ok
unfolding answer_of effect
returns-in-Ok c =
    let a = c.args in
    let d = a.d in
    let long : length d.pages ≡ 8 = search (rules, length-mapped) in
    let made = answer-made d (write a.bytes.now) _ _ _ c.is_valid.ensures (c.judge-rule.ensures.answer ∙ ap (λ (n : ℕ). write_answer n d.unpaged a.bytes.now) (sym long)) (c.number-number.ensures ∙ c.checked-answer.ensures.answer) in
    stepped d (write a.bytes.now) _ _ made (done_left d (write a.bytes.now) _ _ (rw c.in-Ok.is at c.number-number.ensures) (c.written.ensures ∙ ap (written d) (rw c.in-Ok.ensures.given at c.judge-rule.ensures.write)))

pub returns-in-Err : goal.returns-in-Err
unfolding answer_of effect
returns-in-Err c =
    let a = c.args in
    let d = a.d in
    let long : length d.pages ≡ 8 = search (rules, length-mapped) in
    let made = answer-made d (write a.bytes.now) _ _ _ c.is_valid.ensures (c.judge-rule.ensures.answer ∙ ap (λ (n : ℕ). write_answer n d.unpaged a.bytes.now) (sym long)) (c.number-number.ensures ∙ c.checked-answer.ensures.answer) in
    stepped d (write a.bytes.now) _ _ made (refused_left d (write a.bytes.now) c.in-Err.refusal _ _ (rw c.in-Err.is at c.number-number.ensures) c.refuse.ensures)
