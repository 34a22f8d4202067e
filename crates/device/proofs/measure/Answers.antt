-- `device::measure` meets its contract.
-- Assumes nothing.
use Rattle.std.proofs.Common.{◌≡◌, ℕ, length, sym, ap, ◌∙◌, rules}
use Rattle.laws.proofs.Folds.{length-mapped}
use Rattle.unpaged.specs.Events.{measure_answer}
use Rattle.device.specs.Step.{measure, answer_of, effect, measured}
use Rattle.device.proofs.Calls.{answer-made, stepped, done_left, refused_left, measured-small}
use Rattle.device.proofs.measure.Goals as goal

pub measured-requires : goal.measured-requires
unfolding answer_of
measured-requires c =
    let a = c.args in
    let d = a.d in
    let long : length d.pages ≡ 8 = search (rules, length-mapped) in
    let made = answer-made d (measure a.page a.quantity a.word) _ _ _ c.is_valid.ensures (c.measure_answer-rule.ensures.answer ∙ ap (λ (n : ℕ). measure_answer n a.page a.quantity) (sym long)) c.in-Ok.ensures.answer in
    rw long at (measured-small d a.page a.quantity a.word (sym made))

pub returns-in-Ok : goal.returns-in-Ok
unfolding answer_of effect
returns-in-Ok c =
    let a = c.args in
    let d = a.d in
    let long : length d.pages ≡ 8 = search (rules, length-mapped) in
    let made = answer-made d (measure a.page a.quantity a.word) _ _ _ c.is_valid.ensures (c.measure_answer-rule.ensures.answer ∙ ap (λ (n : ℕ). measure_answer n a.page a.quantity) (sym long)) (c.number-number.ensures ∙ c.checked-answer.ensures.answer) in
    stepped d (measure a.page a.quantity a.word) _ _ made (done_left d (measure a.page a.quantity a.word) _ _ (rw c.in-Ok.is at c.number-number.ensures) (c.measured.ensures ∙ ap (λ (q : ℕ). measured d a.page q a.word) (rw c.in-Ok.ensures.given at c.measure_answer-rule.ensures.named)))

pub returns-in-Err : goal.returns-in-Err
unfolding answer_of effect
returns-in-Err c =
    let a = c.args in
    let d = a.d in
    let long : length d.pages ≡ 8 = search (rules, length-mapped) in
    let made = answer-made d (measure a.page a.quantity a.word) _ _ _ c.is_valid.ensures (c.measure_answer-rule.ensures.answer ∙ ap (λ (n : ℕ). measure_answer n a.page a.quantity) (sym long)) (c.number-number.ensures ∙ c.checked-answer.ensures.answer) in
    stepped d (measure a.page a.quantity a.word) _ _ made (refused_left d (measure a.page a.quantity a.word) c.in-Err.refusal _ _ (rw c.in-Err.is at c.number-number.ensures) c.refuse.ensures)
