-- The formats of a page (data sheet 20.3): no call changes them.
-- Assumes nothing.
use Rattle.std.specs.Prelude.{ℕ, ◌<◌, ◌≡◌, List}
use Rattle.device.specs.Device.{Choice, number_of, choice_at, page_of}
use Rattle.device.specs.Step.{Call}
use Rattle.history.specs.Run.{reached}

-- in every state of a run each page has the formats that were chosen for it at power-on
unfoldable pub FormatsStay : Type 0
FormatsStay = (x : Choice) (cs : List Call) (i : ℕ) → i < number_of x → (page_of (reached x cs) i).formats ≡ (choice_at x i).formats
