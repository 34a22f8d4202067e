-- The streaming device beside the whole-transaction device, with nothing between the events of a transaction. Crate traffic has the same with
-- other calls between, and runs.
-- Assumes nothing.
use Rattle.std.specs.Prelude.{ℕ, min, ◌≡◌, true, false, List, [], ◌∷◌, ◌++◌, take}
use Rattle.bus.specs.Part.{idle_phase, broken, part_valid, started}
use Rattle.bus.specs.Automaton.{Event, start, byte, again, clock}
use Rattle.bus.specs.Ack.{acked_first, acked_second}
use Rattle.bus.specs.Orders.{write_order, turn_order, read_order, Inner}
use Rattle.device.specs.declared.Device.{Device}
use Rattle.device.specs.Step.{Call, write, read, done, step}
use Rattle.stream.specs.Stream.{State, state, state_valid, begin_answer, byte_ack, byte_sent, stopped, called, Turn, on, after, feed, sent_in, events}

-- ---- the first eleven bytes decide, and whether eight or fewer bytes are clocked or more

unfoldable pub WriteByEleven : Type 0
WriteByEleven = (d : Device) (s : List ℕ) → (step d (write (take 11 s))).done ≡ (step d (write s)).done

unfoldable pub ReadByEleven : Type 0
ReadByEleven = (d : Device) (header : List ℕ) (n : ℕ) → (step d (read (take 11 header) (min n 9))).done ≡ (step d (read header n)).done

-- ---- a transaction fed event by event

-- every list of bytes of any length, and every number of clocked bytes
unfoldable pub Written : Type 0
Written =
    (s : State) (bs : List ℕ) → part_valid s.part ≡ true
    → stopped (feed s (events (start ∷ write_order bs))) ≡ (step s.device (write bs)).done

unfoldable pub Read : Type 0
Read =
    (s : State) (bs : List ℕ) (b n : ℕ) → part_valid s.part ≡ true
    → (stopped (feed s (events (start ∷ read_order bs b n))) ≡ (step s.device (read (bs ++ b ∷ []) n)).done)
    × (sent_in s (events (start ∷ read_order bs b n)) ≡ (step s.device (read (bs ++ b ∷ []) n)).reply)

-- every list of events between START and STOP: a write, a read, or nothing orderly, where STOP answers 2 and nothing changes
pub data End (s : State) (es : List Event) : Type 0 where
  as_write : (bs : List ℕ) → es ≡ write_order bs → stopped (feed s (events (start ∷ es))) ≡ (step s.device (write bs)).done → End s es
  as_read : (bs : List ℕ) (b n : ℕ) → es ≡ read_order bs b n
      → stopped (feed s (events (start ∷ es))) ≡ (step s.device (read (bs ++ b ∷ []) n)).done
      → sent_in s (events (start ∷ es)) ≡ (step s.device (read (bs ++ b ∷ []) n)).reply → End s es
  unfinished : (bs : List ℕ) → es ≡ turn_order bs → stopped (feed s (events (start ∷ es))) ≡ done s.device 2 → End s es
  breach : (feed s (events (start ∷ es))).part.phase ≡ broken → stopped (feed s (events (start ∷ es))) ≡ done s.device 2 → End s es

unfoldable pub EveryEnd : Type 0
EveryEnd = (s : State) (es : List Event) → state_valid s ≡ true → Inner es → End s es

-- ---- ACK and NACK

unfoldable pub AckedFirst : Type 0
AckedFirst =
    (s : State) (bs : List ℕ) (b : ℕ) → state_valid s ≡ true
    → byte_ack (feed s (events (start ∷ write_order bs))) b ≡ acked_first bs b

unfoldable pub AckedSecond : Type 0
AckedSecond =
    (s : State) (bs : List ℕ) (b : ℕ) → state_valid s ≡ true
    → byte_ack (feed s (events (start ∷ turn_order bs))) b ≡ acked_second bs b

-- ---- out of order

-- after a breach, or without START: NACK, FFh, and at STOP 2 with no change
pub record Disorder (s : State) : Type 0 where
  pub nack : (b : ℕ) → byte_ack s b ≡ false
  pub ones : byte_sent s ≡ 255
  pub two : stopped s ≡ done s.device 2

unfoldable pub Breach : Type 0
Breach =
    (s : State) (es : List Event) → state_valid s ≡ true → Inner es
    → s.part.phase ≡ broken → ((feed s (events es)).part.phase ≡ broken) × Disorder (feed s (events es))

unfoldable pub NoStart : Type 0
NoStart =
    (s : State) → state_valid s ≡ true → s.part.phase ≡ idle_phase
    → Disorder s
    × (((b : ℕ) → (after s (on (byte b))).part.phase ≡ broken)
    × (((after s (on again)).part.phase ≡ broken) × ((after s (on clock)).part.phase ≡ broken)))

-- ---- START without STOP drops what was under way, and nothing has changed

unfoldable pub Dropped : Type 0
Dropped =
    (s : State) (es : List Event) → state_valid s ≡ true → Inner es
    → after (feed s (events es)) (on start) ≡ state started s.device

-- ---- answer 15

pub record Deaf (s : State) : Type 0 where
  pub stays : (e : Event) → after s (on e) ≡ s
  pub begins : begin_answer s ≡ 15
  pub nack : (b : ℕ) → byte_ack s b ≡ false
  pub ones : byte_sent s ≡ 255
  pub fifteen : stopped s ≡ done s.device 15
  pub calls : (c : Call) → ((called s c).done ≡ done s.device 15)

unfoldable pub Fifteen : Type 0
Fifteen = (s : State) → state_valid s ≡ false → Deaf s

-- what is kept stays valid
unfoldable pub PartStays : Type 0
PartStays = (s : State) (t : Turn) → part_valid s.part ≡ true → part_valid (after s t).part ≡ true
