-- The device over lent records: the same definition of a call as the eight-page device has, its state split into the unpaged part, which
-- comes back by value, and the records.
-- Assumes nothing.
use Rattle.std.specs.Prelude.{ℕ, Bool, false, cond, not, ◌&&◌, ◌||◌, Option, Some, None, Result, Ok, Err, List, length, eqb}
use Rattle.answer.specs.declared.Refusal.{Refusal}
use Rattle.answer.specs.Answer.{number_of as refusal_number}
use Rattle.account.specs.Account.{sampled}
use Rattle.page.specs.declared.Page.{Page}
use Rattle.page.specs.Causes.{settled}
use Rattle.page.specs.Settings.{set_measurement}
use Rattle.page.specs.Status.{any, risen}
use Rattle.unpaged.specs.declared.Unpaged.{Unpaged}
use Rattle.unpaged.specs.Unpaged.{every_page, refused, unpaged_valid, with_alert, with_energy}
use Rattle.writes.specs.declared.asked.Write.{Write}
use Rattle.writes.specs.Left.{page_left, unpaged_left, clearing}
use Rattle.reads.specs.declared.request.Request.{Request}
use Rattle.reads.specs.Data.{read_stream}
use Rattle.reads.specs.Reply.{alert_stream}
use Rattle.device.specs.declared.Done.{Done}
use Rattle.device.specs.Device.{device, Choice, number_of, usual, supported, granted, chosen_unpaged, power_on}
use Rattle.device.specs.Step.{done}
use Rattle.lent.specs.declared.Outcome.{Outcome}
use Rattle.lent.specs.declared.turns.Turn.{Turn}
use Rattle.lent.specs.declared.turns.Sending.{Sending}

-- an outcome beside the records after the call
abbrev pub beside : Outcome → List Page → Done
beside r ps = done (device r.unpaged ps) r.answer

-- Power-on by a choice. With one to ninety-six records every one is set: each by its own choice where there are as many and power-on grants them
-- all; otherwise answer 27, and nothing else is chosen than so many pages. With any other number of records the unpaged part alone, and 15.
unfoldable pub powered_by : Choice → List Page → Done
powered_by x ps =
    cond (supported (length ps))
    (cond (eqb (number_of x) (length ps) && granted x) (done (power_on x) 0) (done (power_on (usual (length ps))) 27))
    (done (device (chosen_unpaged x) ps) 15)

abbrev pub powered : List Page → Done
powered ps = powered_by (usual (length ps)) ps

-- the test for answer 15, by what is known of all records, their number where each is valid: `device_valid` of every list of records of which it
-- is known
unfoldable pub seen_valid : Option ℕ → Unpaged → Bool
seen_valid None u = false
seen_valid (Some n) u = supported n && unpaged_valid n u

-- the answer of a call whose rule, of so many records, answers so
unfoldable pub seen_answer : Option ℕ → Unpaged → (ℕ → ℕ) → ℕ
seen_answer None u rule = 15
seen_answer (Some n) u rule = cond (seen_valid (Some n) u) (rule n) 15

abbrev pub outcome : Unpaged → ℕ → Outcome
outcome u answer = record { unpaged = u; answer = answer }

abbrev pub turn : Outcome → Page → Option Write → Bool → Turn
turn r p every clears = record { outcome = r; page = p; every = every; clears = clears }

-- what an answer other than 0 leaves,
unfoldable pub refused_outcome : Unpaged → ℕ → Outcome
refused_outcome u answer = outcome (refused u answer) answer

-- what an accepted write makes of the page that it acts on; where that is every page, p is none of them and stays as it is
abbrev pub accepted_page : Unpaged → Page → Write → Page
accepted_page u p w = cond (every_page u) p (page_left w p)

abbrev pub accepted_unpaged : Unpaged → Page → Write → Unpaged
accepted_unpaged u p w = with_alert (unpaged_left w u) ((unpaged_left w u).alert || (risen p (accepted_page u p w) && not (every_page u)))

unfoldable pub accepted_turn : Unpaged → Page → Write → Turn
accepted_turn u p w = turn (outcome (accepted_unpaged u p w) 0) (accepted_page u p w) (cond (every_page u) (Some w) None) (clearing w)

unfoldable pub write_turn : Unpaged → Page → Result Write Refusal → Turn
write_turn u p (Ok w) = accepted_turn u p w
write_turn u p (Err refusal) = turn (refused_outcome u (refusal_number refusal)) p None false

-- the same by the number of the answer, of a write that asks for w where it is accepted
unfoldable pub answered_turn : Unpaged → Page → ℕ → Write → Turn
answered_turn u p answer w = cond (eqb answer 0) (accepted_turn u p w) (turn (refused_outcome u answer) p None false)

-- and an accepted measurement
abbrev pub measured_page : Page → ℕ → ℕ → Page
measured_page p quantity word = settled (set_measurement p quantity word)

unfoldable pub measured_turn : Unpaged → Page → ℕ → ℕ → Turn
measured_turn u p quantity word =
    turn (outcome (with_alert u (u.alert || risen p (measured_page p quantity word))) 0) (measured_page p quantity word) None false

unfoldable pub measure_turn : Unpaged → Page → ℕ → ℕ → ℕ → Turn
measure_turn u p answer quantity word = cond (eqb answer 0) (measured_turn u p quantity word) (turn (refused_outcome u answer) p None false)

-- the alert rises with a bit that rose on any of all records; after a clearing it is up exactly while a bit stands, on some page or in
-- STATUS_CML
unfoldable pub finished : Outcome → Bool → Bool → Bool → Outcome
finished r clears rose standing =
    outcome (with_alert r.unpaged (cond clears (standing || any r.unpaged.cml) (r.unpaged.alert || rose))) r.answer

-- a sample that is taken goes into the account
unfoldable pub sample_left : Unpaged → ℕ → ℕ → Outcome
sample_left u answer power = cond (eqb answer 0) (outcome (with_energy u (sampled u.energy power).account) answer) (refused_outcome u answer)

-- an answered alert response takes the alert down
unfoldable pub alert_left : Unpaged → ℕ → Outcome
alert_left u answer = cond (eqb answer 0) (outcome (with_alert u false) answer) (refused_outcome u answer)

-- what is sent beside an outcome
abbrev pub sending : Outcome → List ℕ → Sending
sending r bytes = record { outcome = r; stream = bytes }

unfoldable pub read_turn : Unpaged → Page → ℕ → Result Request ℕ → List ℕ → Sending
read_turn u p answer request header = sending (refused_outcome u answer) (read_stream u p answer request header)

unfoldable pub alert_turn : Unpaged → ℕ → Sending
alert_turn u answer = sending (alert_left u answer) (alert_stream answer)
