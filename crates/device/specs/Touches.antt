-- Which pages a call may change (data sheet 15.2).
-- Assumes nothing.
use Rattle.std.specs.Prelude.{ℕ, ◌≡◌, Bool, true, false, eqb}
use Rattle.unpaged.specs.Unpaged.{acts_on}
use Rattle.device.specs.declared.Device.{Device}
use Rattle.device.specs.Device.{page_of}
use Rattle.device.specs.Step.{Call, write, read, measure, sample, alert_response, tick, step}

-- a write the pages that it acts on, a measurement the one that it names, a tick each, no other call any
unfoldable pub touches : Device → Call → ℕ → Bool
touches d (write s) i = acts_on d.unpaged i
touches d (read header n) i = false
touches d (measure page quantity word) i = eqb page i
touches d (sample n) i = false
touches d (alert_response n) i = false
touches d tick i = true

unfoldable pub PagesStay : Type 0
PagesStay = (d : Device) (c : Call) (i : ℕ) → touches d c i ≡ false → page_of (step d c).done.device i ≡ page_of d i
