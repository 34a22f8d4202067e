-- Bytes of a transaction with other calls between them.
-- Assumes nothing.
use Rattle.std.specs.Prelude.{ℕ, List, [], ◌∷◌}
use Rattle.bus.specs.Automaton.{byte, clock}
use Rattle.device.specs.declared.Device.{Device}
use Rattle.device.specs.Step.{Call, step}
use Rattle.stream.specs.Stream.{Turn, on, call}

-- a byte, or a call that comes between
pub data Mixed : Type 0 where
  put : ℕ → Mixed
  aside : Call → Mixed

-- as turns: bytes that the host writes, or bytes that it clocks, whose numbers are not looked at
abbrev pub putting : List Mixed → List Turn
putting [] = []
putting (put b ∷ l) = on (byte b) ∷ putting l
putting (aside c ∷ l) = call c ∷ putting l

abbrev pub clocking : List Mixed → List Turn
clocking [] = []
clocking (put b ∷ l) = on clock ∷ clocking l
clocking (aside c ∷ l) = call c ∷ clocking l

-- the bytes alone, and the device that the calls alone leave
abbrev pub puts : List Mixed → List ℕ
puts [] = []
puts (put b ∷ l) = b ∷ puts l
puts (aside c ∷ l) = puts l

abbrev pub later : Device → List Mixed → Device
later d [] = d
later d (put b ∷ l) = later d l
later d (aside c ∷ l) = later (step d c).done.device l
