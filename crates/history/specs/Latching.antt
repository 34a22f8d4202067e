-- The bits of the causes and warnings, and how they latch, on every page i of a run (data sheet 6.1, 6.4, 6.5, 6.14).
-- Assumes nothing.
use Rattle.std.specs.Prelude.{ℕ, ◌<◌, ◌≡◌, true, not, ◌&&◌, ◌||◌, List}
use Rattle.laws.specs.Bits.{bit}
use Rattle.page.specs.Causes.{present}
use Rattle.page.specs.Latching.{status_bit, register_of, bit_of, caused}
use Rattle.unpaged.specs.Unpaged.{cml_bits}
use Rattle.device.specs.declared.Device.{Device}
use Rattle.device.specs.Device.{Choice, number_of, page_of}
use Rattle.device.specs.Step.{Call}
use Rattle.history.specs.Run.{next, answer, reached, cml_bit}
use Rattle.history.specs.Clearing.{clears, clears_cml}

-- after every call of a run the bit of each present cause and warning is 1; so too after a clearing (data sheet 6.4, 6.14)
unfoldable pub Latched : Type 0
Latched =
    (x : Choice) (cs : List Call) (i m : ℕ) → i < number_of x → m < 11 → present (page_of (reached x cs) i) m ≡ true
    → status_bit (page_of (reached x cs) i) (register_of m) (bit_of m) ≡ true

-- One equation for each bit and call of a run: a page's bit is 1 after it exactly when it was before and is not cleared, or a cause or
-- warning with that bit is present; and a bit of CML when it was and is not cleared, or the answer sets it (data sheet 15.3).
unfoldable pub Latches : Type 0
Latches =
    (x : Choice) (cs : List Call) (c : Call) (i j k : ℕ) → i < number_of x → j < 4
    → status_bit (page_of (next (reached x cs) c) i) j k
    ≡ (status_bit (page_of (reached x cs) i) j k && not (clears (reached x cs) c i j k) || caused (page_of (next (reached x cs) c) i) j k)

unfoldable pub LatchesCml : Type 0
LatchesCml =
    (d : Device) (c : Call) (k : ℕ)
    → cml_bit (next d c) k ≡ (cml_bit d k && not (clears_cml d c k) || bit (cml_bits (answer d c)) k)
