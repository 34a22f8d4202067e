-- What a warning leaves alone (data sheet 6.15): OPERATION, trip and supplies go on without it, whatever the response bytes. Two runs that
-- differ in warn limits differ in the warnings' bits, in what shows these, and in the alert, and in nothing else.
-- Assumes nothing.
use Rattle.std.specs.Prelude.{ℕ, ◌<◌, ◌≡◌, Bool, true, false, ◌&&◌, ◌||◌, List, ◌∷◌, ◌++◌, eqb, leb, length, get_or, take}
use Rattle.laws.specs.Lists.{any_of, Bytes}
use Rattle.cause.specs.Causes.{warnings, register}
use Rattle.page.specs.declared.Page.{Page}
use Rattle.page.specs.Latching.{status_bit}
use Rattle.page.specs.Status.{supplies}
use Rattle.writes.specs.Accepted.{code_of}
use Rattle.device.specs.declared.Device.{Device}
use Rattle.device.specs.Device.{Choice, page_of}
use Rattle.device.specs.Step.{Call, write, read, measure, sample, alert_response, tick, step}
use Rattle.history.specs.Run.{next, answer, reached}

-- bit k of register j is a warning's,
unfoldable pub warning_bit : ℕ → ℕ → Bool
warning_bit j k = any_of (λ l. eqb (register l) j && eqb l.bit_number k) warnings

-- and a code is that of a warn limit (data sheet 6.13)
unfoldable pub warn_limit : ℕ → Bool
warn_limit code = any_of (λ l. eqb code l.limit_code) warnings

-- two pages that differ in warn limits and warnings' bits at most: the fault limits are the first six
pub record AlikePages (p q : Page) : Type 0 where
  pub operation : p.operation ≡ q.operation
  pub command : p.command ≡ q.command
  pub limits : take 6 p.limits ≡ take 6 q.limits
  pub responses : p.responses ≡ q.responses
  pub machines : p.machines ≡ q.machines
  pub words : p.words ≡ q.words
  pub measured : p.measured ≡ q.measured
  pub bits : (j k : ℕ) → j < 4 → warning_bit j k ≡ false → status_bit p j k ≡ status_bit q j k
  pub tripped : p.tripped ≡ q.tripped
  pub formats : p.formats ≡ q.formats

-- two devices that differ in these, page by page, and in the alert at most
pub record Alike (d e : Device) : Type 0 where
  pub page : d.unpaged.page ≡ e.unpaged.page
  pub protect : d.unpaged.protect ≡ e.unpaged.protect
  pub cml : d.unpaged.cml ≡ e.unpaged.cml
  pub energy : d.unpaged.energy ≡ e.unpaged.energy
  pub number : length d.pages ≡ length e.pages
  pub pages : (i : ℕ) → i < length d.pages → AlikePages (page_of d i) (page_of e i)

-- they give a call the same answer; an alert response alone asks for the alert
unfoldable pub AnswerAlike : Device → Device → Call → Type 0
AnswerAlike d e (write s) = answer d (write s) ≡ answer e (write s)
AnswerAlike d e (read header n) = answer d (read header n) ≡ answer e (read header n)
AnswerAlike d e (measure page quantity word) = answer d (measure page quantity word) ≡ answer e (measure page quantity word)
AnswerAlike d e (sample n) = answer d (sample n) ≡ answer e (sample n)
AnswerAlike d e (alert_response n) = Unit
AnswerAlike d e tick = answer d tick ≡ answer e tick

-- such devices answer every call alike, and it leaves them alike;
unfoldable pub StayAlike : Type 0
StayAlike = (d e : Device) (c : Call) → Alike d e → AnswerAlike d e c × Alike (next d c) (next e c)

-- and so it is with their replies, but for the codes that show warnings: STATUS_BYTE, STATUS_WORD, the registers of a page, the warn limits;
unfoldable pub shows_warnings : ℕ → Bool
shows_warnings code = leb 0x78 code && leb code 0x7D || warn_limit code

unfoldable pub ReplyAlike : Type 0
ReplyAlike =
    (d e : Device) (header : List ℕ) (n : ℕ) → Alike d e → Bytes header → shows_warnings (get_or header 1 0) ≡ false
    → (step d (read header n)).reply ≡ (step e (read header n)).reply

-- a run goes on alike with an accepted write of a warn limit and without it,
unfoldable pub WarnLimitsAside : Type 0
WarnLimitsAside =
    (x : Choice) (cs ds : List Call) (s : List ℕ) → warn_limit (code_of s) ≡ true → answer (reached x cs) (write s) ≡ 0
    → Alike (reached x (cs ++ write s ∷ ds)) (reached x (cs ++ ds))

-- and pages that are alike are tripped alike, by `AlikePages`, and supply alike
unfoldable pub SupplyAlike : Type 0
SupplyAlike = (p q : Page) → AlikePages p q → supplies p ≡ supplies q
