-- `buffer::calls::measure` meets its contract.
-- Assumes nothing.
use Rattle.device.specs.Step.{measure}
use Rattle.buffer.proofs.Held.{was_held, call_refused, call_taken}
use Rattle.buffer.proofs.calls.measure.Goals as goal

pub measured-requires : goal.measured-requires
measured-requires c = was_held _ _ c.in-Some.ensures.cases

pub returns-in-Some : goal.returns-in-Some
returns-in-Some c =
    let r = c.measured.ensures in call_taken _ _ c.in-Some.ensures.cases (measure c.args.page c.args.quantity c.args.word) _ _ r.answer r.left

pub returns-in-None : goal.returns-in-None
returns-in-None c = call_refused _ c.in-None.ensures.cases _
