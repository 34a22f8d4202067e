-- `buffer::calls::power_on_by` meets its contract.
-- Assumes nothing.
use Rattle.buffer.proofs.Powering.{by-refused, granted-gives, refused-gives}
use Rattle.buffer.proofs.calls.power_on_by.Goals as goal

pub returns-in_default : goal.returns-in_default
returns-in_default c = by-refused _ c.in_default.ensures.cases _

pub returns-in_default-granted_choices : goal.returns-in_default-granted_choices
returns-in_default-granted_choices c =
    let h = c.in-Some.ensures.cases in refused-gives _ _ h.long _ c.in_default-granted_choices.ensures _ h.same c.powered.ensures

pub returns : goal.returns
returns c =
    let h = c.in-Some.ensures.cases in granted-gives _ _ h.long _ _ c.in-Some-granted_choices.ensures c.chosen.ensures
