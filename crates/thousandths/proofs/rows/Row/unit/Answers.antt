-- `thousandths::rows::Row::unit` meets its contract.
-- Assumes nothing.
use Rattle.std.proofs.Common.{arith}
use lib.Pow.{pow-lt, pow_mono}
use Rattle.thousandths.specs.Conversion.{unit}
use Rattle.thousandths.proofs.rows.Row.unit.Goals as goal

pub returns : goal.returns
unfolding unit
returns c =
    let n = c.args.self.number in
    record {
      value = omega (arith, pow-lt {i = n} {j = 64} (omega arith));
      some = omega (arith, pow-lt {i = n} {j = 64} (omega arith), pow_mono {i = 0} {j = n} (omega arith));
      small = omega (arith, pow-lt {i = n} {j = 64} (omega arith), pow_mono {i = n} {j = 31} (omega arith));
    }
