-- `buffer::steps::byte` meets its contract.
-- Assumes nothing.
use Rattle.bus.specs.Automaton.{byte}
use Rattle.buffer.specs.Buffer.{refuses}
use Rattle.buffer.proofs.Held.{byte_is, was_ready, event_refused, event_taken}
use Rattle.buffer.proofs.Ending.{keeping, keeping-more, byte-fed, byte-gives}
use Rattle.std.proofs.Common.{refl}
use Rattle.buffer.proofs.steps.byte.Goals as goal

pub returns-in_default : goal.returns-in_default
unfolding refuses
returns-in_default c = event_refused _ c.in_default.ensures.cases (byte c.args.b)

pub acknowledged-ack-requires : goal.acknowledged-ack-requires
acknowledged-ack-requires c = keeping _ (was_ready _ _ c.in-Some.ensures.cases)

pub answer-requires : goal.answer-requires
answer-requires c = keeping-more _ (keeping _ (was_ready _ _ c.in-Some.ensures.cases)) _ _ c.keep.ensures

pub returns : goal.returns
returns c =
    let h = c.in-Some.ensures.cases in
    event_taken _ _ h (byte c.args.b) _ _ (byte-gives _ _ _ _ c.acknowledged-ack.ensures (byte_is _ _ c.from.ensures))
    (byte-fed _ (keeping _ (was_ready _ _ h)) _ _ c.keep.ensures _ _ refl c.answer.ensures)
