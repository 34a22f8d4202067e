-- The same over the streaming device, the bytes of a transaction fed one by one (data sheet 18.9, 18.11).
-- Assumes nothing.
use Rattle.std.specs.Prelude.{ℕ, ◌≡◌, Bool, true, false, List, [], ◌∷◌, ◌++◌, map, replicate}
use Rattle.bus.specs.Part.{part_valid}
use Rattle.bus.specs.Automaton.{Event, start, byte, again, clock}
use Rattle.device.specs.Step.{done, step}
use Rattle.stream.specs.Stream.{State, state_valid, byte_ack, stopped, feed, sent_in, events}
use Rattle.host.specs.Build.{write_frame, read_count}
use Rattle.host.specs.Parse.{parsed}
use Rattle.dialogue.specs.Transactions.{Transaction, writing, reading, Buildable, call_of}
use Rattle.dialogue.specs.Understood.{command_done, unreadable, Heard}

-- what comes before STOP: of a write each byte that was built; of a read the first two of its header, a repeated START, the third, and as
-- many clocked bytes as the count says
unfoldable pub events_of : Transaction → List Event
events_of (writing code bytes check) = start ∷ map byte (write_frame code bytes check)
events_of (reading code check) = start ∷ byte 0xC0 ∷ byte code ∷ again ∷ byte 0xC1 ∷ replicate (read_count code check) clock

-- STOP then gives state and answer of the whole call, and the bytes sent are its reply
unfoldable pub AsCall : Type 0
AsCall =
    (s : State) (t : Transaction) → part_valid s.part ≡ true
    → (stopped (feed s (events (events_of t))) ≡ (step s.device (call_of t)).done)
    × (sent_in s (events (events_of t)) ≡ (step s.device (call_of t)).reply)

-- so that a write is understood,
unfoldable pub StreamUnderstood : Type 0
StreamUnderstood =
    (s : State) (code : ℕ) (bytes : List ℕ) (check : Bool) → state_valid s ≡ true → Buildable (writing code bytes check)
    → stopped (feed s (events (events_of (writing code bytes check)))) ≡ command_done s.device code bytes

-- and a read answered, its reply heard
unfoldable pub StreamHeard : Type 0
StreamHeard =
    (s : State) (code : ℕ) (check : Bool) → state_valid s ≡ true → Buildable (reading code check) → unreadable s.device code ≡ false
    → (stopped (feed s (events (events_of (reading code check)))) ≡ done s.device 0)
    × Heard s.device code (parsed code check (sent_in s (events (events_of (reading code check)))))

-- Every byte is ACKed: each byte b of a write behind the bytes bs that come before it,
unfoldable pub WriteAcked : Type 0
WriteAcked =
    (s : State) (code : ℕ) (bytes : List ℕ) (check : Bool) → state_valid s ≡ true → Buildable (writing code bytes check)
    → (bs : List ℕ) (b : ℕ) (more : List ℕ) → write_frame code bytes check ≡ bs ++ (b ∷ more)
    → byte_ack (feed s (events (start ∷ map byte bs))) b ≡ true

-- and the three of a read's header
pub record HeaderAcked (s : State) (code : ℕ) : Type 0 where
  pub address : byte_ack (feed s (events (start ∷ []))) 0xC0 ≡ true
  pub code-byte : byte_ack (feed s (events (start ∷ byte 0xC0 ∷ []))) code ≡ true
  pub second_address : byte_ack (feed s (events (start ∷ byte 0xC0 ∷ byte code ∷ again ∷ []))) 0xC1 ≡ true

unfoldable pub ReadAcked : Type 0
ReadAcked = (s : State) (code : ℕ) (check : Bool) → state_valid s ≡ true → Buildable (reading code check) → HeaderAcked s code
