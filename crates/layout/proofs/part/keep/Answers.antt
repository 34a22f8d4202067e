-- `layout::part::keep` meets its contract.
-- Assumes nothing.
use Rattle.std.proofs.Common.{ap, set}
use Rattle.layout.proofs.Kept.{keep_made}
use Rattle.layout.proofs.part.keep.Goals as goal

pub returns : goal.returns
returns c = keep_made c.args.s.now c.requires c.args.b _ _ (ap (set c.args.s.now 0) c.after_byte.ensures) c.hear.ensures
