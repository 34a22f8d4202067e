-- The alert (data sheet 8.1 to 8.4).
-- Assumes nothing.
use Rattle.std.specs.Prelude.{ℕ, ◌<◌, ◌≡◌, ◌⊎◌, ◌↔◌, Bool, true, false, eqb, length}
use Rattle.page.specs.Latching.{status_bit}
use Rattle.device.specs.declared.Device.{Device}
use Rattle.device.specs.Device.{page_of}
use Rattle.device.specs.Step.{Call, write, read, measure, sample, alert_response, tick}
use Rattle.history.specs.Run.{next, answer, cml_bit}
use Rattle.history.specs.Clearing.{clearing_call}

-- some bit of STATUS_CML or of a page's four registers is 0 in d and 1 in e
pub data Turned (d e : Device) : Type 0 where
  in_cml : (k : ℕ) → cml_bit d k ≡ false → cml_bit e k ≡ true → Turned d e
  on_page : (i j k : ℕ) → i < length d.pages → j < 4 → status_bit (page_of d i) j k ≡ false → status_bit (page_of e i) j k ≡ true → Turned d e

-- some such bit is 1
pub data Stands (d : Device) : Type 0 where
  in_cml : (k : ℕ) → cml_bit d k ≡ true → Stands d
  on_page : (i j k : ℕ) → i < length d.pages → j < 4 → status_bit (page_of d i) j k ≡ true → Stands d

-- an alert response with answer 0
unfoldable pub answered_alert : Device → Call → Bool
answered_alert d (write s) = false
answered_alert d (read header n) = false
answered_alert d (measure page quantity word) = false
answered_alert d (sample n) = false
answered_alert d (alert_response n) = eqb (answer d (alert_response n)) 0
answered_alert d tick = false

-- it goes up exactly with a bit that turns from 0 to 1, and stays up (data sheet 8.1, 8.2)
unfoldable pub AlertRises : Type 0
AlertRises =
    (d : Device) (c : Call) → clearing_call d c ≡ false → answered_alert d c ≡ false
    → ((next d c).unpaged.alert ≡ true) ↔ ((d.unpaged.alert ≡ true) ⊎ Turned d (next d c))

-- after a clearing it shows whether a bit stands anywhere (data sheet 8.3)
unfoldable pub AlertCleared : Type 0
AlertCleared = (d : Device) (c : Call) → clearing_call d c ≡ true → ((next d c).unpaged.alert ≡ true) ↔ Stands (next d c)

-- answered, it is down (data sheet 8.4)
unfoldable pub AlertAnswered : Type 0
AlertAnswered = (d : Device) (c : Call) → answered_alert d c ≡ true → (next d c).unpaged.alert ≡ false
