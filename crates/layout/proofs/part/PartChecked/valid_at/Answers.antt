-- `layout::part::PartChecked::valid_at` meets its contract.
-- Assumes nothing.
use Rattle.std.proofs.Common.{ap, ◌∙◌}
use Rattle.bus.specs.Part.{part_valid}
use Rattle.layout.proofs.part.PartChecked.valid_at.Goals as goal

pub returns : goal.returns
returns c = c.part_valid.ensures ∙ ap part_valid c.load.ensures.value
