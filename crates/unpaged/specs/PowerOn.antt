-- The unpaged part after power-on (data sheet 1.4), field by field.
-- Assumes nothing.
use Rattle.std.specs.Prelude.{◌≡◌, false}
use Rattle.unpaged.specs.declared.Unpaged.{Unpaged}
use Rattle.unpaged.specs.Unpaged.{power_on_unpaged}

pub record QuietUnpaged (u : Unpaged) : Type 0 where
  -- page 0 is selected, and every write is permitted
  pub page : u.page ≡ 0
  pub protect : u.protect ≡ 0x00
  -- no refusal has set a bit, and the alert is down
  pub cml : u.cml ≡ 0x00
  pub alert : u.alert ≡ false
  -- no sample was taken
  pub accumulator : u.energy.accumulator ≡ 0
  pub rollover : u.energy.rollover ≡ 0
  pub count : u.energy.count ≡ 0

unfoldable pub PowerOnQuiet : Type 0
PowerOnQuiet = QuietUnpaged power_on_unpaged
