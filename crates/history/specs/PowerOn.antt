-- The device after power-on, whatever was chosen: nothing has happened yet (data sheet 1.4).
-- Assumes nothing.
use Rattle.std.specs.Prelude.{ℕ, ◌<◌}
use Rattle.page.specs.PowerOn.{QuietPage}
use Rattle.unpaged.specs.PowerOn.{QuietUnpaged}
use Rattle.device.specs.Device.{Choice, number_of, power_on, page_of}

unfoldable pub PowerOnQuiet : Type 0
PowerOnQuiet = (x : Choice) → QuietUnpaged (power_on x).unpaged × ((i : ℕ) → i < number_of x → QuietPage (page_of (power_on x) i))
