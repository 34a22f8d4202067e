-- When a page is tripped, and what untrips it, on every page i of a run (data sheet 7.1 to 7.4).
-- Assumes nothing.
use Rattle.std.specs.Prelude.{ℕ, ◌<◌, ◌≡◌, Bool, true, false, not, ◌&&◌, ◌||◌, List, eqb, length}
use Rattle.page.specs.Causes.{present, shut_down}
use Rattle.page.specs.Latching.{stays_off_by}
use Rattle.unpaged.specs.Unpaged.{acts_on}
use Rattle.device.specs.declared.Device.{Device}
use Rattle.device.specs.Device.{Choice, number_of, page_of}
use Rattle.device.specs.Step.{Call}
use Rattle.history.specs.Run.{next, reached}
use Rattle.history.specs.Clearing.{accepted_write}

-- a present cause whose response is to shut down and stay off has tripped its page (data sheet 7.1)
unfoldable pub Tripped : Type 0
Tripped =
    (x : Choice) (cs : List Call) (i m : ℕ) → i < number_of x → m < 6 → present (page_of (reached x cs) i) m ≡ true
    → stays_off_by (page_of (reached x cs) i) m ≡ true → (page_of (reached x cs) i).tripped ≡ true

-- the writes that untrip, by code and data: OPERATION 00h or 40h
abbrev pub untripping : ℕ → ℕ → Bool
untripping code x = eqb code 0x01 && (eqb x 0x00 || eqb x 0x40)

-- c untrips page i
unfoldable pub untrips : Device → Call → ℕ → Bool
untrips d c i = accepted_write d c untripping && acts_on d.unpaged i

-- nothing else untrips a page (data sheet 7.2, 7.4)
unfoldable pub StaysTripped : Type 0
StaysTripped =
    (d : Device) (c : Call) (i : ℕ) → i < length d.pages → (page_of d i).tripped ≡ true → (page_of (next d c) i).tripped ≡ false → untrips d c i ≡ true

-- One equation for each call of a run, ticks among them: a page is tripped after it exactly when it was before and is not untripped, or a present
-- cause shuts it down without a machine, or a machine has tripped it; at once after an untripping too
unfoldable pub Trips : Type 0
Trips =
    (x : Choice) (cs : List Call) (c : Call) (i : ℕ) → i < number_of x
    → (page_of (next (reached x cs) c) i).tripped
    ≡ ((page_of (reached x cs) i).tripped && not (untrips (reached x cs) c i) || shut_down (page_of (next (reached x cs) c) i))
