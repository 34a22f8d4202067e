-- The energy guarantee (data sheet 15.7): one claim about every list of calls from power-on, with every choice of copies of its energy
-- replies. Copies, and the log of samples taken and copies got, are those of crate energy (Reply.antt, Events.antt); what holds at each copy
-- too (Claim.antt, Tally.antt).
-- Assumes nothing.
use Rattle.std.specs.Prelude.{ℕ, Bool, cond, ◌&&◌, List, [], ◌∷◌, eqb}
use Rattle.writes.specs.Accepted.{code_of}
use Rattle.energy.specs.Reply.{Copy, AreCopies}
use Rattle.energy.specs.Events.{Log, fresh_log, log_sample, log_copies}
use Rattle.energy.specs.Claim.{AtEachCopy}
use Rattle.device.specs.declared.Device.{Device}
use Rattle.device.specs.Device.{Choice, power_on}
use Rattle.device.specs.Step.{Call, write, read, measure, sample, alert_response, tick, Result, step}
use Rattle.history.specs.Run.{next}

-- A call of any kind with any numbers, refused or not, and the copies of its reply that the totalizer gets; they count only where the call
-- leaves an energy reply (data sheet 15.6).
pub record Turn : Type 0 where
  pub call : Call
  pub copies : List Copy

-- a call's part in the guarantee: a power sample with its answer, an energy reply by its bytes, or none
pub data Part : Type 0 where
  power_sample : ℕ → ℕ → Part
  energy_reply : List ℕ → Part
  none : Part

-- a read of 86h of eight bytes with answer 0, so that the header is right (data sheet 15.6)
abbrev pub is_energy_reply : List ℕ → ℕ → Result → Bool
is_energy_reply header n r = eqb (code_of header) 0x86 && eqb n 8 && eqb r.done.answer 0

-- by the call and its result, a line for each kind
unfoldable pub part_of : Call → Result → Part
part_of (write s) r = none
part_of (read header n) r = cond (is_energy_reply header n r) (energy_reply r.reply) none
part_of (measure page quantity word) r = none
part_of (sample n) r = power_sample n r.done.answer
part_of (alert_response n) r = none
part_of tick r = none

abbrev pub part : Device → Turn → Part
part d t = part_of t.call (step d t.call)

-- the log l after a call: a sample that was taken is noted, copies of a reply go to the totalizer
unfoldable pub log_part : Log → List Copy → Part → Log
log_part l copies (power_sample n answer) = log_sample l n answer
log_part l copies (energy_reply reply) = log_copies 0x86 reply l copies
log_part l copies none = l

-- the log after a list of calls, each on the state that the one before it left
unfoldable pub log_after : Device → Log → List Turn → Log
log_after d l [] = l
log_after d l (t ∷ ts) = log_after (next d t.call) (log_part l t.copies (part d t)) ts

-- the copies of an energy reply are copies of it (data sheet 15.6)
unfoldable pub CopiesOf : List Copy → Part → Type 0
CopiesOf copies (power_sample n answer) = Unit
CopiesOf copies (energy_reply reply) = AreCopies reply copies
CopiesOf copies none = Unit

unfoldable pub TrueCopies : Device → List Turn → Type 0
TrueCopies d [] = Unit
TrueCopies d (t ∷ ts) = CopiesOf t.copies (part d t) × TrueCopies (next d t.call) ts

-- For every choice, every list of calls from one power-on and a fresh totalizer. AtEachCopy (crate energy) is what holds at each copy
-- that the totalizer got: a changed one is refused, an intact one accepted, and the totals are the tally.
unfoldable pub TotalsTrusted : Type 0
TotalsTrusted = (x : Choice) (ts : List Turn) → TrueCopies (power_on x) ts → AtEachCopy (log_after (power_on x) fresh_log ts).history
