-- `layout::state::ready` meets its contract.
-- Assumes nothing.
use Rattle.std.proofs.Common.{◌∙◌, ap, arith}
use Rattle.stream.specs.Stream.{state_valid}
use Rattle.layout.specs.State.{decode}
use Rattle.layout.proofs.Decoded.{ready_made, ready-not}
use Rattle.layout.proofs.state.ready.Goals as goal

pub returns-in-Some : goal.returns-in-Some
returns-in-Some c =
    let h = c.in-Some.ensures.cases in
    ready_made _ (omega arith) _ (c.holds_valid.ensures ∙ ap (λ s. state_valid (decode s)) h.same)

pub returns-in-None : goal.returns-in-None
returns-in-None c = ready-not _ c.in-None.ensures.cases
