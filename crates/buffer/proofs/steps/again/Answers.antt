-- `buffer::steps::again` meets its contract.
-- Assumes nothing.
use Rattle.bus.specs.Automaton.{again}
use Rattle.buffer.specs.Buffer.{refuses, gives}
use Rattle.buffer.proofs.Held.{event_refused, event_taken}
use Rattle.buffer.proofs.Ending.{again_fed}
use Rattle.std.proofs.Common.{refl}
use Rattle.buffer.proofs.steps.again.Goals as goal

pub returns-in_default : goal.returns-in_default
unfolding refuses
returns-in_default c = event_refused _ c.in_default.ensures.cases (again)

pub returns : goal.returns
unfolding gives
returns c =
    event_taken _ _ c.in-Some.ensures.cases again 0 _ refl (again_fed _ _ _ _ c.part_of-p.ensures c.set_part.ensures c.restarted.ensures)
