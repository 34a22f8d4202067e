-- The streaming device: the device and what it keeps of a transaction (crate bus). It takes START, bytes, repeated START, clocked bytes and
-- STOP, and beside them measurements, power samples and the other calls; no whole transactions. Every rule of a transaction is the whole
-- device's `step`, asked twice: for the reply at the second address byte, and at STOP for answer and effect.
-- Assumes nothing.
use Rattle.std.specs.Prelude.{ℕ, Bool, cond, ◌&&◌, Option, Some, List, [], ◌∷◌, map, eqb}
use Rattle.bus.specs.declared.Part.{Part}
use Rattle.bus.specs.Part.{writing, turning, reading, part_valid, heard, answering}
use Rattle.bus.specs.Automaton.{Event, start, byte, again, clock, stop, byted, part_after, clock_byte}
use Rattle.bus.specs.Ack.{ack_of}
use Rattle.page.specs.declared.Page.{Page}
use Rattle.unpaged.specs.declared.Unpaged.{Unpaged}
use Rattle.reads.specs.Request.{request_of}
use Rattle.reads.specs.Answers.{read_answer}
use Rattle.reads.specs.Data.{read_stream}
use Rattle.reads.specs.Reply.{reply_of}
use Rattle.device.specs.declared.Device.{Device}
use Rattle.device.specs.declared.Done.{Done}
use Rattle.device.specs.Device.{device_valid}
use Rattle.device.specs.Step.{Call, write, read, clocked, done, Result, step}

pub record State : Type 0 where
  pub part : Part
  pub device : Device

abbrev pub state : Part → Device → State
state p d = record { part = p; device = d }

-- any other state gets answer 15, NACK and FFh, and nothing of it changes
unfoldable pub state_valid : State → Bool
state_valid s = part_valid s.part && device_valid s.device

-- what the rules of lent records are told of the pages of a valid state
abbrev pub eight_valid : Option ℕ
eight_valid = Some 8

-- ---- the five events

-- the first eight bytes of what a read sends, of a valid state that shows the page p
unfoldable pub page_reply : Unpaged → Page → List ℕ → List ℕ
page_reply u p header = reply_of (read_stream u p (read_answer u p header 8) (request_of header) header) 8

-- what is kept after a byte: the second address byte makes the reply, the whole of it, from the state as it is then
unfoldable pub byte_taken : Device → Part → ℕ → Part
byte_taken d p b =
    cond (eqb p.phase turning)
    (answering (byted p b) (step d (read (heard (byted p b)) 8)).reply)
    (byted p b)

unfoldable pub part_next : Device → Part → Event → Part
part_next d p start = part_after p start
part_next d p (byte b) = byte_taken d p b
part_next d p again = part_after p again
part_next d p clock = part_after p clock
part_next d p stop = part_after p stop

-- what STOP ends: a write, a read, or nothing orderly, which is answer 2 and no change
unfoldable pub ended : Device → Part → Done
ended d p =
    cond (eqb p.phase writing) (step d (write (heard p))).done
    (cond (eqb p.phase reading) (step d (read (heard p) p.clocked)).done
    (done d 2))

-- ---- what each event gives

-- START and repeated START: an answer number
unfoldable pub begin_answer : State → ℕ
begin_answer s = cond (state_valid s) 0 15

-- a byte: ACK or NACK
unfoldable pub byte_ack : State → ℕ → Bool
byte_ack s b = state_valid s && ack_of s.part b

-- a clocked byte: what is sent for it
unfoldable pub byte_sent : State → ℕ
byte_sent s = cond (state_valid s) (clock_byte s.part) 255

-- STOP: an answer number, and what the transaction leaves of the device
unfoldable pub stopped : State → Done
stopped s = cond (state_valid s) (ended s.device s.part) (done s.device 15)

-- every other call is the whole device's
unfoldable pub called : State → Call → Result
called s c = cond (part_valid s.part) (step s.device c) (record { done = done s.device 15; reply = reply_of [] (clocked c) })

-- ---- runs

-- an event of the bus, or another call
pub data Turn : Type 0 where
  on : Event → Turn
  call : Call → Turn

unfoldable pub device_next : State → Event → Device
device_next s start = s.device
device_next s (byte b) = s.device
device_next s again = s.device
device_next s clock = s.device
device_next s stop = (stopped s).device

unfoldable pub after : State → Turn → State
after s (on e) = state (cond (state_valid s) (part_next s.device s.part e) s.part) (device_next s e)
after s (call c) = state s.part (called s c).done.device

unfoldable pub feed : State → List Turn → State
feed s [] = s
feed s (t ∷ ts) = feed (after s t) ts

-- the bytes sent
unfoldable pub sent_in : State → List Turn → List ℕ
sent_in s [] = []
sent_in s (on start ∷ ts) = sent_in (after s (on start)) ts
sent_in s (on (byte b) ∷ ts) = sent_in (after s (on (byte b))) ts
sent_in s (on again ∷ ts) = sent_in (after s (on again)) ts
sent_in s (on clock ∷ ts) = byte_sent s ∷ sent_in (after s (on clock)) ts
sent_in s (on stop ∷ ts) = sent_in (after s (on stop)) ts
sent_in s (call c ∷ ts) = sent_in (after s (call c)) ts

-- events with nothing between them
abbrev pub events : List Event → List Turn
events es = map on es
