-- The streaming device with samples, measurements, alert responses and ticks between the events of a transaction. Such a call changes neither the
-- answer nor the bytes that are still to be sent: these were made when the second address byte came. What the transaction does, it does at STOP.
-- Assumes nothing.
use Rattle.std.specs.Prelude.{ℕ, ◌≡◌, true, List, [], ◌∷◌, ◌++◌, length}
use Rattle.bus.specs.Part.{part_valid}
use Rattle.bus.specs.Automaton.{start, byte, again}
use Rattle.bus.specs.Ack.{acked_first, acked_second}
use Rattle.device.specs.declared.Device.{Device}
use Rattle.device.specs.Step.{Call, write, read, measure, sample, alert_response, tick, step}
use Rattle.stream.specs.Stream.{State, state_valid, byte_ack, stopped, Turn, on, feed, sent_in}
use Rattle.stream.specs.Between.{Mixed, put, aside, putting, clocking, puts, later}

-- the calls that may come between: every kind but transactions
abbrev pub Between : Call → Type 0
Between (write s) = ⊥
Between (read header n) = ⊥
Between (measure page quantity word) = Unit
Between (sample n) = Unit
Between (alert_response n) = Unit
Between tick = Unit

abbrev pub Others : List Mixed → Type 0
Others [] = Unit
Others (put b ∷ l) = Others l
Others (aside c ∷ l) = Between c × Others l

-- a write whose bytes have calls between them
abbrev pub write_turns : List Mixed → List Turn
write_turns l = on start ∷ putting l

-- a read: l before the repeated START, m, of calls alone, before the second address byte b, k with the clocked bytes after it
abbrev pub turn_turns : List Mixed → List Mixed → List Turn
turn_turns l m = on start ∷ (putting l ++ (on again ∷ putting m))

abbrev pub read_turns : List Mixed → List Mixed → ℕ → List Mixed → List Turn
read_turns l m b k = on start ∷ (putting l ++ (on again ∷ (putting m ++ (on (byte b) ∷ clocking k))))

-- the device at STOP and at the second address byte
abbrev pub at_second : Device → List Mixed → List Mixed → Device
at_second d l m = later (later d l) m

pub record WriteBetween (s : State) (l : List Mixed) : Type 0 where
  pub falls : stopped (feed s (write_turns l)) ≡ (step (later s.device l) (write (puts l))).done
  pub answer : (stopped (feed s (write_turns l))).answer ≡ (step s.device (write (puts l))).done.answer

unfoldable pub WritesBetween : Type 0
WritesBetween = (s : State) (l : List Mixed) → part_valid s.part ≡ true → Others l → WriteBetween s l

pub record ReadBetween (s : State) (l m : List Mixed) (b : ℕ) (k : List Mixed) (header : List ℕ) (n : ℕ) : Type 0 where
  pub falls : stopped (feed s (read_turns l m b k)) ≡ (step (later (at_second s.device l m) k) (read header n)).done
  pub answer : (stopped (feed s (read_turns l m b k))).answer ≡ (step s.device (read header n)).done.answer
  pub reply : sent_in s (read_turns l m b k) ≡ (step (at_second s.device l m) (read header n)).reply

unfoldable pub ReadsBetween : Type 0
ReadsBetween =
    (s : State) (l m : List Mixed) (b : ℕ) (k : List Mixed) → part_valid s.part ≡ true → Others l → Others m → Others k → puts m ≡ []
    → ReadBetween s l m b k (puts l ++ b ∷ []) (length (puts k))

-- ACK and NACK do not depend on the calls between
unfoldable pub AcksBetween : Type 0
AcksBetween =
    (s : State) (l m : List Mixed) (b : ℕ) → state_valid s ≡ true → Others l → Others m → puts m ≡ []
    → (byte_ack (feed s (write_turns l)) b ≡ acked_first (puts l) b)
    × (byte_ack (feed s (turn_turns l m)) b ≡ acked_second (puts l) b)
