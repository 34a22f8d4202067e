-- Answer 15 (data sheet 12.2), and that no call of a run gets it (data sheet 12.5).
-- Assumes nothing.
use Rattle.std.specs.Prelude.{◌≡◌, true, not, List, eqb}
use Rattle.device.specs.declared.Device.{Device}
use Rattle.device.specs.Device.{Choice, number_of, granted, device_valid}
use Rattle.device.specs.Step.{Call}
use Rattle.history.specs.Run.{answer, reached, Whole}

-- 15 goes exactly to a state that is not valid, by every kind of call
unfoldable pub Fifteen : Type 0
Fifteen = (d : Device) (c : Call) → eqb (answer d c) 15 ≡ not (device_valid d)

-- every state of a run has its pages, and is valid
unfoldable pub ReachedWhole : Type 0
ReachedWhole = (x : Choice) (cs : List Call) → Whole (number_of x) (reached x cs)

unfoldable pub ReachedValid : Type 0
ReachedValid = (x : Choice) (cs : List Call) → granted x ≡ true → device_valid (reached x cs) ≡ true

unfoldable pub NoFifteen : Type 0
NoFifteen = (x : Choice) (cs : List Call) (c : Call) → granted x ≡ true → answer (reached x cs) c ≡ 15 → ⊥
