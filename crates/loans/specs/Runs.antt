-- Runs of the device over lent records: power-on, then its own calls, each with the unpaged part and the records as the call before it left
-- them, and anywhere between them stray calls, which are lent something else and get 15.
-- Assumes nothing.
use Rattle.std.specs.Prelude.{◌≡◌, true, List, [], ◌∷◌, map, length}
use Rattle.page.specs.declared.Page.{Page}
use Rattle.energy.specs.Reply.{Copy}
use Rattle.energy.specs.Events.{Log, fresh_log}
use Rattle.energy.specs.Claim.{AtEachCopy}
use Rattle.device.specs.declared.Device.{Device}
use Rattle.device.specs.Device.{device, Choice, number_of, usual, granted, power_on}
use Rattle.device.specs.Step.{Call, Result, step}
use Rattle.history.specs.Run.{next, answer, reached}
use Rattle.history.specs.Energy.{Turn, Part, none, part, log_part, log_after, CopiesOf}
use Rattle.lent.specs.Lent.{powered_by}
use Rattle.loans.specs.Loans.{Loan}

-- A call with the copies of its reply that the totalizer gets (crate history): the device's own, or a stray one. Power-on of something else is
-- stray too.
pub data LentCall : Type 0 where
  own : Turn → LentCall
  stray : Loan → Turn → LentCall
  stray_power_on : Choice → Loan → LentCall

-- the device after it; of a stray power-on the records come back, and the unpaged part that it hands out is not the device's
unfoldable pub lent_next : Device → LentCall → Device
lent_next d (own t) = next d t.call
lent_next d (stray l t) = l.back d (next (l.lent d) t.call)
lent_next d (stray_power_on x l) = l.back d (device (l.lent d).unpaged (powered_by x (l.lent d).pages).device.pages)

-- a stray call gets 15
unfoldable pub Gets15 : Device → LentCall → Type 0
Gets15 d (own t) = Unit
Gets15 d (stray l t) = answer (l.lent d) t.call ≡ 15
Gets15 d (stray_power_on x l) = (powered_by x (l.lent d).pages).answer ≡ 15

unfoldable pub StraysGet15 : Device → List LentCall → Type 0
StraysGet15 d [] = Unit
StraysGet15 d (m ∷ ms) = Gets15 d m × StraysGet15 (lent_next d m) ms

-- ---- what a run leaves: the device,
unfoldable pub lent_run : Device → List LentCall → Device
lent_run d [] = d
lent_run d (m ∷ ms) = lent_run (lent_next d m) ms

-- the answers and replies of its own calls,
unfoldable pub own_results : Device → List LentCall → List Result
own_results d [] = []
own_results d (own t ∷ ms) = step d t.call ∷ own_results (lent_next d (own t)) ms
own_results d (stray l t ∷ ms) = own_results (lent_next d (stray l t)) ms
own_results d (stray_power_on x l ∷ ms) = own_results (lent_next d (stray_power_on x l)) ms

-- and the log of samples taken and copies got, stray calls and copies of their replies included (data sheet 15.6)
unfoldable pub lent_part : Device → LentCall → Part
lent_part d (own t) = part d t
lent_part d (stray l t) = part (l.lent d) t
lent_part d (stray_power_on x l) = none

unfoldable pub lent_copies : LentCall → List Copy
lent_copies (own t) = t.copies
lent_copies (stray l t) = t.copies
lent_copies (stray_power_on x l) = []

unfoldable pub lent_log : Device → Log → List LentCall → Log
lent_log d g [] = g
lent_log d g (m ∷ ms) = lent_log (lent_next d m) (log_part g (lent_copies m) (lent_part d m)) ms

unfoldable pub TrueLentCopies : Device → List LentCall → Type 0
TrueLentCopies d [] = Unit
TrueLentCopies d (m ∷ ms) = CopiesOf (lent_copies m) (lent_part d m) × TrueLentCopies (lent_next d m) ms

-- ---- the run without its stray calls
unfoldable pub own_turns : List LentCall → List Turn
own_turns [] = []
own_turns (own t ∷ ms) = t ∷ own_turns ms
own_turns (stray l t ∷ ms) = own_turns ms
own_turns (stray_power_on x l ∷ ms) = own_turns ms

abbrev pub own_calls : List LentCall → List Call
own_calls ms = map (λ t. t.call) (own_turns ms)

-- its answers and replies
unfoldable pub results : Device → List Call → List Result
results d [] = []
results d (c ∷ cs) = step d c ∷ results (next d c) cs

-- The stray calls drop out: state, answers, replies and log are those of crate history's run by that choice without them. Each beginning of a
-- run is a run, so this holds before and after every call.
pub record DropOut (x : Choice) (d : Device) (ms : List LentCall) : Type 0 where
  pub state : lent_run d ms ≡ reached x (own_calls ms)
  pub answers : own_results d ms ≡ results (power_on x) (own_calls ms)
  pub log : lent_log d fresh_log ms ≡ log_after (power_on x) fresh_log (own_turns ms)

-- from power-on of one to ninety-six records by a choice for each, whatever they held
abbrev pub started : Choice → List Page → Device
started x ps = (powered_by x ps).device

abbrev pub ChosenFor : List Page → Choice → Type 0
ChosenFor ps x = (granted x ≡ true) × (number_of x ≡ length ps)

-- Power-on that gets 27 begins a run too: that of as many pages with nothing else chosen, which is a run by a granted choice.
unfoldable pub RefusedStarts : Type 0
RefusedStarts =
    (x : Choice) (ps : List Page) → (powered_by x ps).answer ≡ 27 → (started x ps ≡ started (usual (length ps)) ps) × ChosenFor ps (usual (length ps))

unfoldable pub StraysDropOut : Type 0
StraysDropOut =
    (x : Choice) (ps : List Page) (ms : List LentCall) → ChosenFor ps x → StraysGet15 (started x ps) ms → DropOut x (started x ps) ms

-- So what crate history claims of every state that calls reach carries over to every state of such a run.
unfoldable pub CarriesOver : Type 1
CarriesOver =
    (P : List Call → Device → Type 0) (x : Choice) (ps : List Page) (ms : List LentCall) → ChosenFor ps x → StraysGet15 (started x ps) ms
    → ((cs : List Call) → P cs (reached x cs)) → P (own_calls ms) (lent_run (started x ps) ms)

-- The energy guarantee (data sheet 15.7), with stray calls between: their samples are not taken, their replies are no energy replies.
unfoldable pub LentEnergy : Type 0
LentEnergy =
    (x : Choice) (ps : List Page) (ms : List LentCall) → ChosenFor ps x → StraysGet15 (started x ps) ms → TrueLentCopies (started x ps) ms
    → AtEachCopy (lent_log (started x ps) fresh_log ms).history
