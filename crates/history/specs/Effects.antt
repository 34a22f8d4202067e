-- What a call with answer 0 leaves as it was, field by field. Refusals.antt says the same of every other answer.
-- Assumes nothing.
use Rattle.std.specs.Prelude.{ℕ, ◌<◌, ◌≡◌, length}
use Rattle.page.specs.declared.Page.{Page}
use Rattle.page.specs.Status.{reading}
use Rattle.writes.specs.Accepted.{code_of}
use Rattle.device.specs.declared.Device.{Device}
use Rattle.device.specs.Device.{page_of}
use Rattle.device.specs.Step.{Call, write, read, measure, sample, alert_response, tick}
use Rattle.history.specs.Run.{next, answer}

-- d became e: all but the alert stayed (data sheet 8.4),
pub record OnlyAlert (d e : Device) : Type 0 where
  pub page : e.unpaged.page ≡ d.unpaged.page
  pub protect : e.unpaged.protect ≡ d.unpaged.protect
  pub cml : e.unpaged.cml ≡ d.unpaged.cml
  pub energy : e.unpaged.energy ≡ d.unpaged.energy
  pub pages : e.pages ≡ d.pages

-- all but the account (data sheet 9.2),
pub record OnlyAccount (d e : Device) : Type 0 where
  pub page : e.unpaged.page ≡ d.unpaged.page
  pub protect : e.unpaged.protect ≡ d.unpaged.protect
  pub cml : e.unpaged.cml ≡ d.unpaged.cml
  pub alert : e.unpaged.alert ≡ d.unpaged.alert
  pub pages : e.pages ≡ d.pages

-- of a page, p before and r after: all but one quantity's word, the status bits, the machines and the trip,
pub record OnlyQuantity (quantity : ℕ) (p r : Page) : Type 0 where
  pub operation : r.operation ≡ p.operation
  pub command : r.command ≡ p.command
  pub limits : r.limits ≡ p.limits
  pub responses : r.responses ≡ p.responses
  pub others : (q : ℕ) → q < 4 → (q ≡ quantity → ⊥) → reading r q ≡ reading p q

-- of the device: all but that page and the alert (data sheet 5.6),
pub record OnlyMeasured (k quantity : ℕ) (d e : Device) : Type 0 where
  pub page : e.unpaged.page ≡ d.unpaged.page
  pub protect : e.unpaged.protect ≡ d.unpaged.protect
  pub cml : e.unpaged.cml ≡ d.unpaged.cml
  pub energy : e.unpaged.energy ≡ d.unpaged.energy
  pub number : length e.pages ≡ length d.pages
  pub others : (i : ℕ) → (i ≡ k → ⊥) → page_of e i ≡ page_of d i
  pub measured : OnlyQuantity quantity (page_of d k) (page_of e k)

-- and by a write: the account, each page's latest words, PAGE and WRITE_PROTECT where another code is written. Which pages it changes is said in
-- Pages.antt, what it stores in ReadBack.antt.
pub record OnlyWritten (code : ℕ) (d e : Device) : Type 0 where
  pub page : (code ≡ 0x00 → ⊥) → e.unpaged.page ≡ d.unpaged.page
  pub protect : (code ≡ 0x10 → ⊥) → e.unpaged.protect ≡ d.unpaged.protect
  pub energy : e.unpaged.energy ≡ d.unpaged.energy
  pub number : length e.pages ≡ length d.pages
  pub readings : (i q : ℕ) → reading (page_of e i) q ≡ reading (page_of d i) q

-- of a page: all but the machines and the trip,
pub record OnlyMachines (p r : Page) : Type 0 where
  pub operation : r.operation ≡ p.operation
  pub command : r.command ≡ p.command
  pub limits : r.limits ≡ p.limits
  pub responses : r.responses ≡ p.responses
  pub words : r.words ≡ p.words
  pub measured : r.measured ≡ p.measured
  pub status : r.status ≡ p.status

-- of the device: all but these, so that a tick sets no bit and leaves the alert (data sheet 7.9)
pub record OnlyTicked (d e : Device) : Type 0 where
  pub unpaged : e.unpaged ≡ d.unpaged
  pub number : length e.pages ≡ length d.pages
  pub pages : (i : ℕ) → i < length d.pages → OnlyMachines (page_of d i) (page_of e i)

-- by the kind of call
unfoldable pub Leaves : Device → Call → Device → Type 0
Leaves d (write s) e = OnlyWritten (code_of s) d e
Leaves d (read header n) e = e ≡ d
Leaves d (measure page quantity word) e = OnlyMeasured page quantity d e
Leaves d (sample n) e = OnlyAccount d e
Leaves d (alert_response n) e = OnlyAlert d e
Leaves d tick e = OnlyTicked d e

unfoldable pub Effects : Type 0
Effects = (d : Device) (c : Call) → answer d c ≡ 0 → Leaves d c (next d c)
