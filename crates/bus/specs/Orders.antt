-- Every list of events after START is a write, a read, the beginning of a read, or a breach of order.
-- Assumes nothing.
use Rattle.std.specs.Prelude.{ℕ, ◌≡◌, List, [], ◌∷◌, ◌++◌, map, replicate}
use Rattle.bus.specs.declared.Part.{Part}
use Rattle.bus.specs.Part.{writing, turning, reading, broken, started}
use Rattle.bus.specs.Automaton.{Event, start, byte, again, clock, stop, part_of}

-- the orders, as they stand between START and STOP
abbrev pub write_order : List ℕ → List Event
write_order bs = map byte bs

abbrev pub turn_order : List ℕ → List Event
turn_order bs = map byte bs ++ (again ∷ [])

abbrev pub read_order : List ℕ → ℕ → ℕ → List Event
read_order bs b n = map byte bs ++ (again ∷ byte b ∷ replicate n clock)

-- the events between START and STOP
abbrev pub Inner : List Event → Type 0
Inner [] = Unit
Inner (start ∷ es) = ⊥
Inner (byte b ∷ es) = Inner es
Inner (again ∷ es) = Inner es
Inner (clock ∷ es) = Inner es
Inner (stop ∷ es) = ⊥

-- what the events es are, by the phase that they lead to
pub data Order (es : List Event) (phase : ℕ) : Type 0 where
  a_write : (bs : List ℕ) → es ≡ write_order bs → phase ≡ writing → Order es phase
  a_turn : (bs : List ℕ) → es ≡ turn_order bs → phase ≡ turning → Order es phase
  a_read : (bs : List ℕ) (b n : ℕ) → es ≡ read_order bs b n → phase ≡ reading → Order es phase
  a_breach : phase ≡ broken → Order es phase

unfoldable pub EveryOrder : Type 0
EveryOrder = (es : List Event) → Inner es → Order es (part_of started es).phase

-- and the orders lead where they should
unfoldable pub OrdersLead : Type 0
OrdersLead =
    (bs : List ℕ) (b n : ℕ)
    → ((part_of started (write_order bs)).phase ≡ writing)
    × (((part_of started (turn_order bs)).phase ≡ turning)
    × ((part_of started (read_order bs b n)).phase ≡ reading))

-- a breach lasts until START or STOP
unfoldable pub BreachLasts : Type 0
BreachLasts = (p : Part) (es : List Event) → Inner es → p.phase ≡ broken → (part_of p es).phase ≡ broken
