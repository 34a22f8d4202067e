-- When a write takes effect (data sheet 3.7).
-- Assumes nothing.
use Rattle.std.specs.Prelude.{ℕ, ◌≡◌, ◌↔◌, true, List, length}
use Rattle.writes.specs.Asked.{asked}
use Rattle.writes.specs.Accepted.{Acceptable}
use Rattle.device.specs.declared.Device.{Device}
use Rattle.device.specs.Device.{device_valid}
use Rattle.device.specs.Step.{write, written}
use Rattle.history.specs.Run.{next, answer}

-- such a write gets answer 0 and takes effect; every other is refused (specs/Refusals.antt)
unfoldable pub TakesEffect : Type 0
TakesEffect =
    (d : Device) (s : List ℕ) → device_valid d ≡ true
    → ((answer d (write s) ≡ 0) ↔ Acceptable (length d.pages) d.unpaged s)
    × (Acceptable (length d.pages) d.unpaged s → next d (write s) ≡ written d (asked s))
