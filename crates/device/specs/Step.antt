-- What a call does (data sheet 1.3): from the state handed in, the state handed back, the answer number and what stands in the reply buffer.
-- A kind of call is one line in each of the definitions `Call`, `answer_of`, `effect`, `sent` and `clocked`.
-- Assumes nothing.
use Rattle.std.specs.Prelude.{ℕ, cond, false, List, [], map, length, eqb}
use Rattle.laws.specs.Lists.{map_at}
use Rattle.account.specs.Account.{sampled}
use Rattle.page.specs.Causes.{settled, ticked}
use Rattle.page.specs.Settings.{set_measurement}
use Rattle.unpaged.specs.Unpaged.{acts_on, refused, with_alert, with_energy}
use Rattle.unpaged.specs.Events.{measure_answer, alert_answer}
use Rattle.writes.specs.declared.asked.Write.{Write}
use Rattle.writes.specs.Asked.{asked}
use Rattle.writes.specs.Answers.{write_answer}
use Rattle.writes.specs.Left.{page_left, unpaged_left, clearing}
use Rattle.reads.specs.Request.{request_of}
use Rattle.reads.specs.Answers.{read_answer}
use Rattle.reads.specs.Data.{read_stream}
use Rattle.reads.specs.Reply.{reply_of, alert_stream}
use Rattle.device.specs.declared.Device.{Device}
use Rattle.device.specs.declared.Done.{Done}
use Rattle.device.specs.Device.{device, device_valid, page_shown, alert_risen, alert_standing}

pub data Call : Type 0 where
  -- a write transaction: the bytes from START to STOP
  write : List ℕ → Call
  -- a read transaction: its header, and the number of bytes clocked
  read : List ℕ → ℕ → Call
  -- a measured word: page, quantity, word
  measure : ℕ → ℕ → ℕ → Call
  -- a power sample
  sample : ℕ → Call
  -- an alert response, and the number of bytes clocked
  alert_response : ℕ → Call
  -- a tick: one unit of the delays on every page
  tick : Call

-- the answer of a call to a valid state
unfoldable pub answer_of : Device → Call → ℕ
answer_of d (write s) = write_answer (length d.pages) d.unpaged s
answer_of d (read header n) = read_answer d.unpaged (page_shown d) header n
answer_of d (measure page quantity word) = measure_answer (length d.pages) page quantity
answer_of d (sample n) = (sampled d.unpaged.energy n).answer
answer_of d (alert_response n) = alert_answer d.unpaged.alert n
answer_of d tick = 0

-- any other state gets 15, before every other test (data sheet 11.1)
unfoldable pub answered : Device → Call → ℕ
answered d c = cond (device_valid d) (answer_of d c) 15

-- an accepted write: each page that it acts on and the unpaged part change, and then the alert
abbrev pub written_to : Device → Write → Device
written_to d w = device (unpaged_left w d.unpaged) (map_at (acts_on d.unpaged) (page_left w) d.pages)

unfoldable pub written : Device → Write → Device
written d w = cond (clearing w) (alert_standing (written_to d w)) (alert_risen d (written_to d w))

-- a measured word on one page
abbrev pub measured_to : Device → ℕ → ℕ → ℕ → Device
measured_to d page quantity word = device d.unpaged (map_at (eqb page) (λ p. settled (set_measurement p quantity word)) d.pages)

unfoldable pub measured : Device → ℕ → ℕ → ℕ → Device
measured d page quantity word = alert_risen d (measured_to d page quantity word)

-- a tick on every page; it sets no bit and leaves the alert (data sheet 7.9)
unfoldable pub ticked_device : Device → Device
ticked_device d = device d.unpaged (map ticked d.pages)

-- what a call with answer 0 leaves
unfoldable pub effect : Device → Call → Device
effect d (write s) = written d (asked s)
effect d (read header n) = d
effect d (measure page quantity word) = measured d page quantity word
effect d (sample n) = device (with_energy d.unpaged (sampled d.unpaged.energy n).account) d.pages
effect d (alert_response n) = device (with_alert d.unpaged false) d.pages
effect d tick = ticked_device d

-- what any other answer leaves: at most a bit of STATUS_CML, and the alert (data sheet 11.6)
unfoldable pub refused_device : Device → ℕ → Device
refused_device d answer = device (refused d.unpaged answer) d.pages

unfoldable pub left : Device → Call → ℕ → Device
left d c answer = cond (eqb answer 0) (effect d c) (refused_device d answer)

-- the bytes sent with an answer, made from the state handed in (data sheet 11.7)
unfoldable pub sent : Device → Call → ℕ → List ℕ
sent d (write s) answer = []
sent d (read header n) answer = read_stream d.unpaged (page_shown d) answer (request_of header) header
sent d (measure page quantity word) answer = []
sent d (sample n) answer = []
sent d (alert_response n) answer = alert_stream answer
sent d tick answer = []

-- the bytes of the reply buffer
abbrev pub clocked : Call → ℕ
clocked (write s) = 0
clocked (read header n) = n
clocked (measure page quantity word) = 0
clocked (sample n) = 0
clocked (alert_response n) = n
clocked tick = 0

abbrev pub done : Device → ℕ → Done
done d answer = record { device = d; answer = answer }

-- the state handed back and the answer; the bytes in the reply buffer
pub record Result : Type 0 where
  pub done : Done
  pub reply : List ℕ

unfoldable pub step : Device → Call → Result
step d c = record { done = done (left d c (answered d c)) (answered d c); reply = reply_of (sent d c (answered d c)) (clocked c) }
