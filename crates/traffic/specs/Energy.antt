-- The energy guarantee of the streaming device (data sheet 15.7): one claim about every list of events and calls from power-on, orderly or
-- not, with other calls between the events of a read as well, and every choice of copies of its energy replies. It is that of crate
-- history, but for the place of a reply among the samples: a reply is made at the second address byte and ended at STOP, so the samples
-- between two replies are those between their second address bytes.
-- Assumes nothing.
use Rattle.std.specs.Prelude.{ℕ, ◌≡◌, Bool, true, false, cond, ◌&&◌, List, [], ◌∷◌, ◌++◌, eqb}
use Rattle.writes.specs.Accepted.{code_of}
use Rattle.energy.specs.Reply.{Copy, AreCopies}
use Rattle.energy.specs.Events.{Log, fresh_log, log_sample, log_copies}
use Rattle.energy.specs.Claim.{AtEachCopy}
use Rattle.bus.specs.Automaton.{start, byte, again, clock, stop}
use Rattle.device.specs.Device.{Choice}
use Rattle.device.specs.Step.{Call, write, read, measure, sample, alert_response, tick}
use Rattle.stream.specs.Stream.{State, byte_sent, stopped, called, Turn, on, call, after}
use Rattle.traffic.specs.Underway.{Underway, nothing, bytes, turned, asked, goes_on}
use Rattle.traffic.specs.Whole.{begun}

-- An event or a call, and the copies that the totalizer gets; they count only at a STOP that ends an energy reply.
pub record Told : Type 0 where
  pub turn : Turn
  pub copies : List Copy

-- a STOP with the answer a: the end of a read of 86h of eight bytes with answer 0
abbrev pub ends_energy : Underway → ℕ → Bool
ends_energy nothing a = false
ends_energy (bytes bs) a = false
ends_energy (turned bs) a = false
ends_energy (asked header n) a = eqb (code_of header) 0x86 && eqb n 8 && eqb a 0

-- a byte that comes next is the second address byte
abbrev pub at_second : Underway → Bool
at_second nothing = false
at_second (bytes bs) = false
at_second (turned bs) = true
at_second (asked header n) = false

-- the log up to the latest second address byte; and since then, the samples taken, the latest first, and the bytes sent
pub record Pending : Type 0 where
  pub log : Log
  pub late : List ℕ
  pub sent : List ℕ

abbrev pub pending : Log → List ℕ → List ℕ → Pending
pending l late sent = record { log = l; late = late; sent = sent }

abbrev pub fresh : Pending
fresh = pending fresh_log [] []

-- the log with these samples, which were taken
abbrev pub noted : Log → List ℕ → Log
noted l [] = l
noted l (n ∷ late) = log_sample (noted l late) n 0

-- a call with the answer a: a sample is taken where it is 0
unfoldable pub call_pending : Pending → Call → ℕ → Pending
call_pending g (write s) a = g
call_pending g (read header n) a = g
call_pending g (measure page quantity word) a = g
call_pending g (sample n) a = cond (eqb a 0) (pending g.log (n ∷ g.late) g.sent) g
call_pending g (alert_response n) a = g
call_pending g tick a = g

-- At the second address byte the samples so far are noted. At STOP copies of what was sent go to the totalizer, before the samples taken
-- since.
unfoldable pub pending_after : State → Underway → Pending → Turn → List Copy → Pending
pending_after s u g (on start) copies = g
pending_after s u g (on (byte b)) copies = cond (at_second u) (pending (noted g.log g.late) [] []) g
pending_after s u g (on again) copies = g
pending_after s u g (on clock) copies = pending g.log g.late (g.sent ++ (byte_sent s ∷ []))
pending_after s u g (on stop) copies =
    cond (ends_energy u (stopped s).answer) (pending (log_copies 0x86 g.sent g.log copies) g.late g.sent) g
pending_after s u g (call c) copies = call_pending g c (called s c).done.answer

-- the log after a list of events and calls
unfoldable pub stream_log : State → Underway → Pending → List Told → Log
stream_log s u g [] = noted g.log g.late
stream_log s u g (t ∷ ts) = stream_log (after s t.turn) (goes_on u t.turn) (pending_after s u g t.turn t.copies) ts

-- the copies of an energy reply are copies of the bytes that were sent (data sheet 15.6)
unfoldable pub CopiesSent : State → Underway → Pending → Turn → List Copy → Type 0
CopiesSent s u g (on start) copies = Unit
CopiesSent s u g (on (byte b)) copies = Unit
CopiesSent s u g (on again) copies = Unit
CopiesSent s u g (on clock) copies = Unit
CopiesSent s u g (on stop) copies = ends_energy u (stopped s).answer ≡ true → AreCopies g.sent copies
CopiesSent s u g (call c) copies = Unit

unfoldable pub TrueTold : State → Underway → Pending → List Told → Type 0
TrueTold s u g [] = Unit
TrueTold s u g (t ∷ ts) =
    CopiesSent s u g t.turn t.copies × TrueTold (after s t.turn) (goes_on u t.turn) (pending_after s u g t.turn t.copies) ts

-- For every choice, every list from one power-on and a fresh totalizer.
unfoldable pub StreamEnergy : Type 0
StreamEnergy =
    (x : Choice) (ts : List Told) → TrueTold (begun x) nothing fresh ts → AtEachCopy (stream_log (begun x) nothing fresh ts).history
