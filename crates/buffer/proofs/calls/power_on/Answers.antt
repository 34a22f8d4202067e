-- `buffer::calls::power_on` meets its contract.
-- Assumes nothing.
use Rattle.buffer.proofs.Powering.{power_taken, power_refused}
use Rattle.buffer.proofs.calls.power_on.Goals as goal

pub returns-in-Some : goal.returns-in-Some
returns-in-Some c =
    let h = c.in-Some.ensures.cases in power_taken _ _ _ h.long h.same c.powered.ensures

pub returns-in-None : goal.returns-in-None
returns-in-None c = power_refused _ c.in-None.ensures.cases
