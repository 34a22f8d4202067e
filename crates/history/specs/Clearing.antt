-- The clearings of status bits, and that a bit falls by nothing else (data sheet 6.5, 6.9).
-- Assumes nothing.
use Rattle.std.specs.Prelude.{ℕ, ◌+◌, ◌<◌, ◌≡◌, Bool, true, false, ◌&&◌, ◌||◌, length, get_or, leb, eqb}
use Rattle.laws.specs.Bits.{bit}
use Rattle.page.specs.Latching.{status_bit}
use Rattle.unpaged.specs.Unpaged.{acts_on}
use Rattle.device.specs.declared.Device.{Device}
use Rattle.device.specs.Device.{page_of}
use Rattle.device.specs.Step.{Call, write, read, measure, sample, alert_response, tick}
use Rattle.history.specs.Run.{next, answer, cml_bit}

-- The two clearings, by code and first data byte x: CLEAR_FAULTS, and ones written to a status register. In three separate meanings: the
-- bits k of register j that fall on each page acted on,
unfoldable pub clears_page : ℕ → ℕ → ℕ → ℕ → Bool
clears_page code x j k = eqb code 0x03 && bit 0xFF k || eqb code (0x7A + j) && bit x k

-- the bits k of STATUS_CML that fall,
unfoldable pub clears_status_cml : ℕ → ℕ → ℕ → Bool
clears_status_cml code x k = eqb code 0x03 && bit 0xFF k || eqb code 0x7E && bit x k

-- and whether the alert is worked out anew
unfoldable pub reworks_alert : ℕ → Bool
reworks_alert code = eqb code 0x03 || leb 0x7A code && leb code 0x7E

-- c is an accepted write whose code and first data byte pass a test
unfoldable pub accepted_write : Device → Call → (ℕ → ℕ → Bool) → Bool
accepted_write d (write s) test = eqb (answer d (write s)) 0 && test (get_or s 1 0) (get_or s 2 0)
accepted_write d (read header n) test = false
accepted_write d (measure page quantity word) test = false
accepted_write d (sample n) test = false
accepted_write d (alert_response n) test = false
accepted_write d tick test = false

-- c clears bit k of register j on page i,
unfoldable pub clears : Device → Call → ℕ → ℕ → ℕ → Bool
clears d c i j k = accepted_write d c (λ code x. clears_page code x j k) && acts_on d.unpaged i

-- bit k of STATUS_CML,
unfoldable pub clears_cml : Device → Call → ℕ → Bool
clears_cml d c k = accepted_write d c (λ code x. clears_status_cml code x k)

-- and is a clearing, whatever bits it clears
unfoldable pub clearing_call : Device → Call → Bool
clearing_call d c = accepted_write d c (λ code x. reworks_alert code)

-- a bit that is 1 before a call and 0 after it was cleared by that call
unfoldable pub Falls : Type 0
Falls =
    (d : Device) (c : Call) (i j k : ℕ) → i < length d.pages → j < 4 → status_bit (page_of d i) j k ≡ true → status_bit (page_of (next d c) i) j k ≡ false
    → clears d c i j k ≡ true

unfoldable pub FallsCml : Type 0
FallsCml = (d : Device) (c : Call) (k : ℕ) → cml_bit d k ≡ true → cml_bit (next d c) k ≡ false → clears_cml d c k ≡ true
