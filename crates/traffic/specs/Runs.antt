-- Runs of the streaming device.
-- Assumes nothing.
use Rattle.std.specs.Prelude.{ℕ, ◌≡◌, true, List, [], ◌∷◌, ◌++◌}
use Rattle.bus.specs.Part.{started, idle}
use Rattle.bus.specs.Automaton.{Event, start, byte, again, clock, stop}
use Rattle.bus.specs.Orders.{write_order, read_order}
use Rattle.device.specs.declared.Device.{Device}
use Rattle.device.specs.Device.{Choice, granted, power_on}
use Rattle.device.specs.Step.{Call, write, read, step}
use Rattle.stream.specs.Stream.{State, state, state_valid, stopped, called, Turn, on, call, after, feed, sent_in, events}
use Rattle.history.specs.Run.{next, answer, run, reached}

-- No event and no call of a run from power-on gets 15, orderly or not.
unfoldable pub NoFifteen : Type 0
NoFifteen = (x : Choice) (ts : List Turn) → granted x ≡ true → state_valid (feed (state idle (power_on x)) ts) ≡ true

-- A transaction from START to STOP with nothing between, or another call.
pub data Item : Type 0 where
  a_write : List ℕ → Item
  a_read : List ℕ → ℕ → ℕ → Item
  a_call : Call → Item

abbrev pub turns_of : List Item → List Turn
turns_of [] = []
turns_of (a_write bs ∷ l) = events (start ∷ (write_order bs ++ (stop ∷ []))) ++ turns_of l
turns_of (a_read bs b n ∷ l) = events (start ∷ (read_order bs b n ++ (stop ∷ []))) ++ turns_of l
turns_of (a_call c ∷ l) = call c ∷ turns_of l

abbrev pub calls_of : List Item → List Call
calls_of [] = []
calls_of (a_write bs ∷ l) = write bs ∷ calls_of l
calls_of (a_read bs b n ∷ l) = read (bs ++ b ∷ []) n ∷ calls_of l
calls_of (a_call c ∷ l) = c ∷ calls_of l

-- A run of these is a run of whole calls, so that all guarantees of such runs (crate history) hold of the streaming device.
unfoldable pub AsRun : Type 0
AsRun = (d : Device) (l : List Item) → (feed (state idle d) (turns_of l)).device ≡ run d (calls_of l)

-- What each of them gives, answer and bytes sent, is what the whole call gives: the energy replies of such a run are those of the whole device.
pub record Outcome : Type 0 where
  pub answer : ℕ
  pub sent : List ℕ

abbrev pub given : State → Item → Outcome
given s (a_write bs) = record { answer = (stopped (feed s (events (start ∷ write_order bs)))).answer; sent = sent_in s (events (start ∷ write_order bs)) }
given s (a_read bs b n) = record {
  answer = (stopped (feed s (events (start ∷ read_order bs b n)))).answer;
  sent = sent_in s (events (start ∷ read_order bs b n));
}
given s (a_call c) = record { answer = (called s c).done.answer; sent = (called s c).reply }

abbrev pub given_along : State → List Item → List Outcome
given_along s [] = []
given_along s (i ∷ l) = given s i ∷ given_along (feed s (turns_of (i ∷ []))) l

abbrev pub whole_along : Device → List Call → List Outcome
whole_along d [] = []
whole_along d (c ∷ cs) = record { answer = answer d c; sent = (step d c).reply } ∷ whole_along (next d c) cs

unfoldable pub SameOutcomes : Type 0
SameOutcomes = (d : Device) (l : List Item) → given_along (state idle d) l ≡ whole_along d (calls_of l)

-- ---- every run, orderly or not, with anything between: its device is one that whole calls reach; Whole.antt says which calls these are
unfoldable pub Reaches : Type 0
Reaches = (x : Choice) (ts : List Turn) → (cs : List Call) × ((feed (state idle (power_on x)) ts).device ≡ reached x cs)

-- ---- until STOP nothing but the other calls changes the device; a START then drops what was under way, whatever that was
abbrev pub NoStop : List Turn → Type 0
NoStop [] = Unit
NoStop (on start ∷ ts) = NoStop ts
NoStop (on (byte b) ∷ ts) = NoStop ts
NoStop (on again ∷ ts) = NoStop ts
NoStop (on clock ∷ ts) = NoStop ts
NoStop (on stop ∷ ts) = ⊥
NoStop (call c ∷ ts) = NoStop ts

abbrev pub calls_in : List Turn → List Call
calls_in [] = []
calls_in (on e ∷ ts) = calls_in ts
calls_in (call c ∷ ts) = c ∷ calls_in ts

unfoldable pub UntilStop : Type 0
UntilStop =
    (s : State) (ts : List Turn) → state_valid s ≡ true → NoStop ts
    → ((feed s ts).device ≡ run s.device (calls_in ts)) × (after (feed s ts) (on start) ≡ state started (feed s ts).device)

-- ---- the turns between START and STOP

-- neither START nor STOP
abbrev pub Within : List Turn → Type 0
Within [] = Unit
Within (on start ∷ ts) = ⊥
Within (on (byte b) ∷ ts) = Within ts
Within (on again ∷ ts) = Within ts
Within (on clock ∷ ts) = Within ts
Within (on stop ∷ ts) = ⊥
Within (call c ∷ ts) = Within ts

-- the events alone
abbrev pub events_in : List Turn → List Event
events_in [] = []
events_in (on e ∷ ts) = e ∷ events_in ts
events_in (call c ∷ ts) = events_in ts
