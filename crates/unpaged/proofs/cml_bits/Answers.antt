-- `unpaged::cml_bits` meets its contract.
-- Assumes nothing.
use Rattle.std.proofs.Common.{sym, ap, ◌∙◌}
use Rattle.unpaged.specs.Unpaged.{cml_bits}
use Rattle.unpaged.proofs.Refusals.{no_bits}
use Rattle.unpaged.proofs.cml_bits.Goals as goal

pub returns-in-Err : goal.returns-in-Err
returns-in-Err c = sym (no_bits c.args.answer c.in-Err.ensures.1)

pub returns-in-Ok : goal.returns-in-Ok
returns-in-Ok c = c.bit_of.ensures ∙ ap cml_bits c.in-Ok.ensures
