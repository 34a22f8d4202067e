-- Which states get answer 15, field by field (data sheet 17.11).
-- Assumes nothing.
use Rattle.std.specs.Prelude.{◌<◌, ◌≡◌, ◌↔◌, true}
use Rattle.device.specs.Device.{device_valid}
use Rattle.device.specs.Step.{Call}
use Rattle.stream.specs.Stream.{State, begin_answer, stopped, called}

-- the numbers kept of a transaction, and the device by its own fields (crate history)
pub record Held (s : State) : Type 0 where
  pub phase : s.part.phase < 5
  pub count : s.part.count < 12
  pub clocked : s.part.clocked < 10
  pub device : device_valid s.device ≡ true

-- START and repeated START, STOP, and every other call
pub record FifteenFor (s : State) : Type 0 where
  pub begins : (begin_answer s ≡ 15) ↔ (Held s → ⊥)
  pub stops : ((stopped s).answer ≡ 15) ↔ (Held s → ⊥)
  pub calls : (c : Call) → ((called s c).done.answer ≡ 15) ↔ (Held s → ⊥)

unfoldable pub FifteenExactly : Type 0
FifteenExactly = (s : State) → FifteenFor s
