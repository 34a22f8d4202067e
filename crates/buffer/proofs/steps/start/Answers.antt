-- `buffer::steps::start` meets its contract.
-- Assumes nothing.
use Rattle.bus.specs.Automaton.{start}
use Rattle.buffer.specs.Buffer.{refuses, gives}
use Rattle.buffer.proofs.Held.{event_refused, event_taken}
use Rattle.buffer.proofs.Ending.{start-fed}
use Rattle.std.proofs.Common.{refl}
use Rattle.buffer.proofs.steps.start.Goals as goal

pub returns-in_default : goal.returns-in_default
unfolding refuses
returns-in_default c = event_refused _ c.in_default.ensures.cases (start)

pub returns : goal.returns
unfolding gives
returns c = event_taken _ _ c.in-Some.ensures.cases start 0 _ refl (start-fed _ _ _ c.set_part.ensures c.start.ensures)
