-- `buffer::calls::tick` meets its contract.
-- Assumes nothing.
use Rattle.device.specs.Step.{tick}
use Rattle.buffer.proofs.Held.{was_held, call_refused, call_taken}
use Rattle.buffer.proofs.calls.tick.Goals as goal

pub ticked-requires : goal.ticked-requires
ticked-requires c = was_held _ _ c.in-Some.ensures.cases

pub returns-in-Some : goal.returns-in-Some
returns-in-Some c =
    let r = c.ticked.ensures in call_taken _ _ c.in-Some.ensures.cases (tick) _ _ r.answer r.left

pub returns-in-None : goal.returns-in-None
returns-in-None c = call_refused _ c.in-None.ensures.cases _
