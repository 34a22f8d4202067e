-- `buffer::calls::granted_choices` meets its contract.
-- Assumes nothing.
use Rattle.std.proofs.Common.{sym, ◌∙◌}
use Rattle.buffer.proofs.Powering.{granted-is, granted-not}
use Rattle.buffer.proofs.calls.granted_choices.Goals as goal

pub returns-in_err-choices : goal.returns-in_err-choices
returns-in_err-choices c = rw c.from_residual.ensures (granted-not _ c.in_err-choices.ensures.cases)

pub returns-then-all_valid : goal.returns-then-all_valid
returns-then-all_valid c =
    let h = c.in_ok-choices.ensures.cases in
    (sym (granted-is _ _ _ h c.all_valid.ensures) ∙ c.if-all_valid.true, h.same)

pub returns-else-all_valid : goal.returns-else-all_valid
returns-else-all_valid c = sym (granted-is _ _ _ c.in_ok-choices.ensures.cases c.all_valid.ensures) ∙ c.if-all_valid.false
