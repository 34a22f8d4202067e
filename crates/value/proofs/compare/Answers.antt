-- `value::compare` meets its contract.
-- Assumes nothing.
use mathlib.Core.Path.{sym}
use Rattle.value.specs.Format.{value_order, comparison}
use Rattle.value.proofs.compare.Goals as goal

pub returns : goal.returns
unfolding value_order comparison
returns c = rw (sym c.if-not-format_valid.ensures, sym c.if-not-format_valid-2.ensures, c.compare.ensures, c.value_of.ensures, c.value_of-2.ensures)
