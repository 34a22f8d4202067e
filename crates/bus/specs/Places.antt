-- Which events are in their places, and what every other event gets (data sheet 17.3, 17.8). It is said by the two orders as they stand, by
-- what came since START, and not by the phases that Automaton.antt has for them.
-- Assumes nothing.
use Rattle.std.specs.Prelude.{ℕ, ◌≡◌, false, List, [], ◌∷◌, ◌++◌, map, replicate}
use Rattle.bus.specs.declared.Part.{Part}
use Rattle.bus.specs.Automaton.{Event, start, byte, again, clock, stop, part_of, clock_byte}
use Rattle.bus.specs.Ack.{ack_of}
use Rattle.bus.specs.Orders.{Inner}

-- The events es, which came since START, are the beginning of an order: of START, bytes, STOP, or of START, bytes, repeated START, a byte,
-- clocked bytes, STOP.
pub data Begins (es : List Event) : Type 0 where
  bytes : (bs : List ℕ) → es ≡ map byte bs → Begins es
  turn : (bs : List ℕ) → es ≡ map byte bs ++ (again ∷ []) → Begins es
  clocks : (bs : List ℕ) (b n : ℕ) → es ≡ map byte bs ++ (again ∷ byte b ∷ replicate n clock) → Begins es

-- With STOP they are the whole of an order.
pub data Ends (es : List Event) : Type 0 where
  write : (bs : List ℕ) → es ≡ map byte bs → Ends es
  read : (bs : List ℕ) (b n : ℕ) → es ≡ map byte bs ++ (again ∷ byte b ∷ replicate n clock) → Ends es

-- the event e behind the events es: a breach of order, or behind one
abbrev pub OutOfPlace : List Event → Event → Type 0
OutOfPlace es e = Begins (es ++ e ∷ []) → ⊥

-- every byte gets NACK, and FFh is sent for every clocked byte
pub record Deaf (p : Part) : Type 0 where
  pub nack : (b : ℕ) → ack_of p b ≡ false
  pub ones : clock_byte p ≡ 255

-- the part p, to which START and then the events es have led
pub record Refuses (p : Part) (es : List Event) : Type 0 where
  -- the event itself by which the order is broken
  pub nack : (b : ℕ) → OutOfPlace es (byte b) → ack_of p b ≡ false
  pub ones : OutOfPlace es clock → clock_byte p ≡ 255
  -- and from a breach on, until START or STOP: no such list is the beginning of an order again
  pub broken : (Begins es → ⊥) → Deaf p

-- Whatever was under way before START; and without START, so behind STOP and behind power-on, no event is in its place.
unfoldable pub NoArrow : Type 0
NoArrow = (p : Part) (es : List Event) → Inner es → Refuses (part_of p (start ∷ es)) es × Deaf (part_of p (stop ∷ es))
