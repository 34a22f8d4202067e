-- The unpaged part after power-on.
-- Assumes nothing.
use mathlib.Core.Path.{refl}
use Rattle.unpaged.specs.Unpaged.{power_on_unpaged}
use Rattle.unpaged.specs.PowerOn.{PowerOnQuiet}

pub power_on-quiet : PowerOnQuiet
unfolding PowerOnQuiet power_on_unpaged
power_on-quiet =
    record { page = refl; protect = refl; cml = refl; alert = refl; accumulator = refl; rollover = refl; count = refl }
