-- `pec::table::byte` meets its contract: what the table has at the index is the byte's check.
-- Assumes nothing.
use mathlib.Core.Path.{◌∙◌}
use Rattle.pec.proofs.Rule.{turned_up}
use Rattle.pec.proofs.table.byte.Goals as goal

pub returns : goal.returns
returns c = c.entry.ensures ∙ turned_up c.args.crc c.args.b c.ranges.crc.fits c.ranges.b.fits
