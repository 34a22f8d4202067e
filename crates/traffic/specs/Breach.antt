-- A breach of order with other calls between the events (data sheet 17.8). Which events are in their places is said by crate bus, from the
-- two orders (Places.antt).
-- Assumes nothing.
use Rattle.std.specs.Prelude.{ℕ, ◌≡◌, true, false, List, ◌∷◌}
use Rattle.bus.specs.Automaton.{Event, start, byte, clock, stop}
use Rattle.bus.specs.Places.{Begins, Ends, OutOfPlace}
use Rattle.device.specs.declared.Device.{Device}
use Rattle.device.specs.Step.{done}
use Rattle.stream.specs.Stream.{State, state_valid, byte_ack, byte_sent, stopped, Turn, on, feed}
use Rattle.history.specs.Run.{run}
use Rattle.traffic.specs.Runs.{Within, events_in, calls_in}

-- the state s after START and the events es, with calls between that alone have led to the device d
pub record Breached (s : State) (es : List Event) (d : Device) : Type 0 where
  -- a byte, or a clocked byte, by which the order is broken
  pub nack : (b : ℕ) → OutOfPlace es (byte b) → byte_ack s b ≡ false
  pub ones : OutOfPlace es clock → byte_sent s ≡ 255
  -- and everything behind a breach
  pub nack_on : (Begins es → ⊥) → (b : ℕ) → byte_ack s b ≡ false
  pub ones_on : (Begins es → ⊥) → byte_sent s ≡ 255
  -- STOP, where this ends none of the orders, answers 2, and nothing but the calls' own changes stays
  pub two : (Ends es → ⊥) → stopped s ≡ done d 2

-- without START
pub record Unstarted (s : State) (d : Device) : Type 0 where
  pub nack : (b : ℕ) → byte_ack s b ≡ false
  pub ones : byte_sent s ≡ 255
  pub two : stopped s ≡ done d 2

unfoldable pub BreachBetween : Type 0
BreachBetween =
    (s : State) (ts : List Turn) → state_valid s ≡ true → Within ts
    → Breached (feed s (on start ∷ ts)) (events_in ts) (run s.device (calls_in ts))
    × Unstarted (feed s (on stop ∷ ts)) (run (stopped s).device (calls_in ts))
