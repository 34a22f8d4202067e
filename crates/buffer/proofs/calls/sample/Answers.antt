-- `buffer::calls::sample` meets its contract.
-- Assumes nothing.
use Rattle.device.specs.Step.{sample}
use Rattle.device.specs.Touches.{touches}
use Rattle.buffer.proofs.Stored.{unpaged-alone, untouched}
use Rattle.std.proofs.Common.{refl, ◌∙◌}
use Rattle.buffer.proofs.Held.{was_held, call_refused, call_taken}
use Rattle.buffer.proofs.calls.sample.Goals as goal

pub sampled-requires : goal.sampled-requires
sampled-requires c = was_held _ _ c.in-Some.ensures.cases

pub returns-in-Some : goal.returns-in-Some
unfolding touches
returns-in-Some c =
    let r = c.sampled.ensures in call_taken _ _ c.in-Some.ensures.cases (sample c.args.power) _ _ r.answer (r.left ∙ unpaged-alone _ _ _ (untouched _ (sample c.args.power) (λ i. refl)))

pub returns-in-None : goal.returns-in-None
returns-in-None c = call_refused _ c.in-None.ensures.cases _
