-- `buffer::steps::clock` meets its contract.
-- Assumes nothing.
use Rattle.bus.specs.Automaton.{clock}
use Rattle.buffer.specs.Buffer.{refuses}
use Rattle.buffer.proofs.Held.{event_refused, event_taken}
use Rattle.buffer.proofs.Ending.{clock_gives, clock_fed}
use Rattle.buffer.proofs.steps.clock.Goals as goal

pub returns-in_default : goal.returns-in_default
unfolding refuses
returns-in_default c = event_refused _ c.in_default.ensures.cases (clock)

pub returns : goal.returns
returns c =
    let e = c.part_of-p.ensures in
    event_taken _ _ c.in-Some.ensures.cases clock _ _ (clock_gives _ _ e _ c.clock_byte.ensures) (clock_fed _ _ _ _ e c.set_part.ensures c.clocked.ensures)
