-- `totalizer::gap` meets its contract.
-- Assumes nothing.
use Rattle.std.proofs.Common.{arith, ◌^◌}
use Rattle.totalizer.proofs.Outcomes.{gap-wrapped}
use Rattle.totalizer.proofs.gap.Goals as goal

pub returns : goal.returns
returns g c =
    let e = gap-wrapped (2 ^ 32) g.row.END c.args.last c.args.new (omega arith) c.requires.divides c.requires.below in
    cc
