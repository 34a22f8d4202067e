-- Runs of a device: the state after a list of calls, each of which gets the state that the one before it left.
-- Assumes nothing.
use Rattle.std.specs.Prelude.{ℕ, ◌≡◌, Bool, List, [], ◌∷◌, length}
use Rattle.laws.specs.Bits.{bit}
use Rattle.device.specs.declared.Device.{Device}
use Rattle.device.specs.Device.{Choice, power_on}
use Rattle.device.specs.Step.{Call, step}

-- the state and the answer after one call
abbrev pub next : Device → Call → Device
next d c = (step d c).done.device

abbrev pub answer : Device → Call → ℕ
answer d c = (step d c).done.answer

unfoldable pub run : Device → List Call → Device
run d [] = d
run d (c ∷ cs) = run (next d c) cs

-- the states reached from power-on by a choice, one after every call of a run, since each beginning of a list is a list.
-- The shelf device is the case `usual 8`.
abbrev pub reached : Choice → List Call → Device
reached x cs = run (power_on x) cs

-- a state of n pages
abbrev pub Whole : ℕ → Device → Type 0
Whole n d = length d.pages ≡ n

-- bit k of STATUS_CML
abbrev pub cml_bit : Device → ℕ → Bool
cml_bit d k = bit d.unpaged.cml k
