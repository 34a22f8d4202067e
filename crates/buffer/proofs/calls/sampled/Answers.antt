-- `buffer::calls::sampled` meets its contract.
-- Assumes nothing.
use Rattle.std.proofs.Common.{◌∙◌}
use Rattle.device.specs.Step.{sample}
use Rattle.lent.proofs.Known.{sample_known}
use Rattle.buffer.proofs.Calling.{kept-outcome, answer-is, unpaged-stored}
use Rattle.buffer.proofs.calls.sampled.Goals as goal

pub returns : goal.returns
returns c =
    let e =
    kept-outcome _ c.requires _ c.unpaged_of-u.ensures (sample c.args.power) _
    (λ ps f. sample_known _ _ _ _ c.sample_outcome-outcome.ensures ps (c.eight_valid-seen.ensures ∙ f)) in
    record { answer = answer-is _ _ _ _ e; left = unpaged-stored _ _ _ _ e _ _ c.set_unpaged.ensures }
