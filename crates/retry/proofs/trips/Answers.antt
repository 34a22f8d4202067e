-- `retry::trips` meets its contract: computed for every byte.
-- Assumes nothing.
use lib.Dec.{leb}
use Rattle.laws.proofs.Every.{agree-test}
use Rattle.retry.specs.Byte.{machine_of, byte_trips}
use Rattle.retry.proofs.trips.Goals as goal

pub returns : goal.returns
unfolding byte_trips machine_of
returns c = agree-test (λ b. leb 64 b) byte_trips 256 tt c.args.m c.ranges.m.fits
