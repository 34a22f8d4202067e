-- What is under way: what came since START, told by the turns alone, and that it is what the two orders say (crate bus, Places.antt).
-- Assumes nothing.
use Rattle.std.specs.Prelude.{ℕ, suc, ◌≡◌, List, [], ◌∷◌, ◌++◌, map, replicate}
use Rattle.bus.specs.Automaton.{Event, start, byte, again, clock, stop}
use Rattle.bus.specs.Places.{Begins}
use Rattle.stream.specs.Stream.{Turn, on, call}
use Rattle.traffic.specs.Runs.{Within, events_in}

-- what came since START, other calls aside
pub data Underway : Type 0 where
  -- no START, or a breach of order since
  nothing : Underway
  -- these bytes
  bytes : List ℕ → Underway
  -- these bytes and a repeated START
  turned : List ℕ → Underway
  -- a header, with its second address byte, and this number of clocked bytes
  asked : List ℕ → ℕ → Underway

-- after a byte, a repeated START and a clocked byte
abbrev pub with_byte : Underway → ℕ → Underway
with_byte nothing b = nothing
with_byte (bytes bs) b = bytes (bs ++ b ∷ [])
with_byte (turned bs) b = asked (bs ++ b ∷ []) 0
with_byte (asked h n) b = nothing

abbrev pub with_again : Underway → Underway
with_again nothing = nothing
with_again (bytes bs) = turned bs
with_again (turned bs) = nothing
with_again (asked h n) = nothing

abbrev pub with_clock : Underway → Underway
with_clock nothing = nothing
with_clock (bytes bs) = nothing
with_clock (turned bs) = nothing
with_clock (asked h n) = asked h (suc n)

-- after an event, and after an event or a call
abbrev pub with_event : Underway → Event → Underway
with_event u start = bytes []
with_event u (byte b) = with_byte u b
with_event u again = with_again u
with_event u clock = with_clock u
with_event u stop = nothing

abbrev pub goes_on : Underway → Turn → Underway
goes_on u (on e) = with_event u e
goes_on u (call c) = u

abbrev pub underway : Underway → List Turn → Underway
underway u [] = u
underway u (t ∷ ts) = underway (goes_on u t) ts

-- u is what the events es since START make: a write, a read, its beginning, or nothing where es is no beginning of an order
pub data Since (es : List Event) (u : Underway) : Type 0 where
  a_write : (bs : List ℕ) → es ≡ map byte bs → u ≡ bytes bs → Since es u
  a_turn : (bs : List ℕ) → es ≡ map byte bs ++ (again ∷ []) → u ≡ turned bs → Since es u
  a_read : (bs : List ℕ) (b n : ℕ) → es ≡ map byte bs ++ (again ∷ byte b ∷ replicate n clock) → u ≡ asked (bs ++ b ∷ []) n → Since es u
  a_breach : (Begins es → ⊥) → u ≡ nothing → Since es u

-- after START, whatever was under way before it; and after STOP
unfoldable pub ByOrders : Type 0
ByOrders =
    (u : Underway) (ts : List Turn) → Within ts
    → Since (events_in ts) (underway u (on start ∷ ts)) × (underway u (on stop ∷ ts) ≡ nothing)
