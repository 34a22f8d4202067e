-- `retry::holds` meets its contract: computed for every byte.
-- Assumes nothing.
use Prim.Native.Nat.{◌%◌}
use mathlib.Core.Bool.{◌&&◌, not}
use lib.Dec.{eqb, ltb}
use Rattle.laws.proofs.Every.{agree-test}
use Rattle.retry.specs.Byte.{machine_of, byte_holds}
use Rattle.retry.proofs.holds.Goals as goal

pub returns : goal.returns
unfolding byte_holds machine_of
returns c = agree-test (λ b. ltb 8 b && ltb b 64 && not (eqb (b % 8) 0)) byte_holds 256 tt c.args.m c.ranges.m.fits
