-- Who gets NACK, in one statement (data sheet 17.4), with or without other calls between the events. Without START every byte does
-- (Breach.antt), and so it does under answer 15 (crate stream, `Fifteen`).
-- Assumes nothing.
use Rattle.std.specs.Prelude.{ℕ, ◌≡◌, ◌↔◌, true, false, List, [], ◌∷◌, ◌++◌, map}
use Rattle.bus.specs.Automaton.{Event, start, byte, again}
use Rattle.bus.specs.Ack.{Refused, RefusedSecond}
use Rattle.bus.specs.Places.{OutOfPlace}
use Rattle.stream.specs.Stream.{State, state_valid, byte_ack, Turn, on, feed}
use Rattle.traffic.specs.Runs.{Within, events_in}

-- the byte b behind START and the events es
pub data Nacked (es : List Event) (b : ℕ) : Type 0 where
  -- it breaks the order, or comes after a breach
  misplaced : OutOfPlace es (byte b) → Nacked es b
  -- before a repeated START: another address, an absent code, anything behind these, or past data and packet check
  first : (bs : List ℕ) → es ≡ map byte bs → Refused bs b → Nacked es b
  -- right behind a repeated START: another byte than C1h, or behind a wrong address or an absent code
  second : (bs : List ℕ) → es ≡ map byte bs ++ (again ∷ []) → RefusedSecond bs b → Nacked es b

unfoldable pub NackExactly : Type 0
NackExactly =
    (s : State) (ts : List Turn) (b : ℕ) → state_valid s ≡ true → Within ts
    → (byte_ack (feed s (on start ∷ ts)) b ≡ false) ↔ Nacked (events_in ts) b
