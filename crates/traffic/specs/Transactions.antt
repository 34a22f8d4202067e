-- A transaction over a lent buffer, event by event, in the words of what is exported (crate buffer: `event_fed`, `event_gives`): at STOP the
-- device that the buffer holds, the answer and the bytes sent are the whole-transaction device's on the same bytes, however many (data
-- sheet 17.5, 17.6).
-- Assumes nothing.
use Rattle.std.specs.Prelude.{ℕ, ◌≡◌, true, List, [], ◌∷◌, ◌++◌, length}
use Rattle.bus.specs.Part.{part_valid}
use Rattle.bus.specs.Automaton.{Event, start, byte, again, clock, stop}
use Rattle.bus.specs.Orders.{write_order, read_order}
use Rattle.device.specs.Step.{write, read, Result, step}
use Rattle.layout.specs.Layout.{size}
use Rattle.layout.specs.State.{part_of, device_of}
use Rattle.buffer.specs.Buffer.{event_fed, event_gives}

-- the buffer after these events
abbrev pub fed_events : List ℕ → List Event → List ℕ
fed_events s [] = s
fed_events s (e ∷ es) = fed_events (event_fed s e) es

-- what was given for the clocked bytes among them
abbrev pub sent_bytes : List ℕ → List Event → List ℕ
sent_bytes s [] = []
sent_bytes s (start ∷ es) = sent_bytes (event_fed s start) es
sent_bytes s (byte b ∷ es) = sent_bytes (event_fed s (byte b)) es
sent_bytes s (again ∷ es) = sent_bytes (event_fed s again) es
sent_bytes s (clock ∷ es) = event_gives s clock ∷ sent_bytes (event_fed s clock) es
sent_bytes s (stop ∷ es) = sent_bytes (event_fed s stop) es

-- START, the events es and STOP come to what the whole call comes to
pub record Ended (s : List ℕ) (es : List Event) (r : Result) : Type 0 where
  pub left : device_of (event_fed (fed_events s (start ∷ es)) stop) ≡ r.done.device
  pub answer : event_gives (fed_events s (start ∷ es)) stop ≡ r.done.answer
  pub sent : sent_bytes s (start ∷ es) ≡ r.reply

-- A buffer of the right length; the device that it holds may be one that gets 15. Of the three numbers kept of a transaction it holds none
-- that no run has.
unfoldable pub OverBuffer : Type 0
OverBuffer =
    (s : List ℕ) → length s ≡ size → part_valid (part_of s) ≡ true
    → ((bs : List ℕ) → Ended s (write_order bs) (step (device_of s) (write bs)))
    × ((bs : List ℕ) (b n : ℕ) → Ended s (read_order bs b n) (step (device_of s) (read (bs ++ b ∷ []) n)))
