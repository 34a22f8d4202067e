-- `buffer::ready_buffer` meets its contract.
-- Assumes nothing.
use Rattle.std.proofs.Common.{refl, sym, ◌∙◌}
use Rattle.buffer.proofs.Held.{ready_cases}
use Rattle.buffer.proofs.ready_buffer.Goals as goal

pub returns : goal.returns
returns c = (refl, record { cases = ready_cases _ (sym c.ready.ensures ∙ c.if-not-ready.false) _ c.as_mut_array.ensures.cases; writes_back = record {} })
