-- `linear11::compare_unsigned` meets its contract.
-- Assumes nothing.
use mathlib.Core.Path.{◌∙◌}
use Rattle.linear11.proofs.Picked.{cmp_is-word_order}
use Rattle.linear11.proofs.compare_unsigned.Goals as goal

pub returns : goal.returns
returns c = c.cmp.ensures ∙ cmp_is-word_order c.args.a c.args.b
