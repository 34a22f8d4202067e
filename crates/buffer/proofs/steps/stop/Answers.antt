-- `buffer::steps::stop` meets its contract.
-- Assumes nothing.
use Rattle.bus.specs.Automaton.{stop}
use Rattle.buffer.specs.Buffer.{refuses}
use Rattle.buffer.proofs.Held.{was_held, event_refused, event_taken}
use Rattle.buffer.proofs.Ending.{emptied_held, stop_made}
use Rattle.buffer.proofs.steps.stop.Goals as goal

pub returns-in_default : goal.returns-in_default
unfolding refuses
returns-in_default c = event_refused _ c.in_default.ensures.cases (stop)

pub ended-requires : goal.ended-requires
ended-requires c = emptied_held _ (was_held _ _ c.in-Some.ensures.cases) _ _ c.idle.ensures c.set_part.ensures

pub returns : goal.returns
returns c =
    let h = c.in-Some.ensures.cases in
    let r = stop_made _ (was_held _ _ h) _ _ _ _ _ c.part_of-p.ensures c.idle.ensures c.set_part.ensures c.ended.ensures in
    event_taken _ _ h stop _ _ r.0 r.1
