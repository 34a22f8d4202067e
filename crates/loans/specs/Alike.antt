-- The eight-page device and the one over lent records are one device: from equal fields every kind of call answers, replies and changes alike,
-- with any number of pages, so with eight.
-- Assumes nothing.
use Rattle.std.specs.Prelude.{ℕ, ◌≡◌, Bool, ◌&&◌, List, length, get_or, ltb}
use Rattle.page.specs.declared.Page.{Page}
use Rattle.page.specs.declared.PageChoice.{PageChoice}
use Rattle.page.specs.Page.{no_page}
use Rattle.page.specs.Status.{supplies}
use Rattle.unpaged.specs.declared.Unpaged.{Unpaged}
use Rattle.device.specs.declared.Device.{Device}
use Rattle.device.specs.declared.Done.{Done}
use Rattle.device.specs.Device.{device, choice, usual, power_on, power_on_by}
use Rattle.device.specs.Step.{Call, step}
use Rattle.device.specs.Supply.{supplies_at}
use Rattle.lent.specs.declared.Outcome.{Outcome}
use Rattle.lent.specs.Lent.{beside, powered, powered_by}

-- ---- what the functions promise, by kind of call; proofs/Contracts.antt holds these lines against the contracts

-- `device::write` and its like get a state d and hand back r; a call with a reply buffer leaves `reply` in it
abbrev pub DeviceDone : Device → Call → Done → Type 0
DeviceDone d c r = r ≡ (step d c).done

abbrev pub DeviceReply : Device → Call → List ℕ → Type 0
DeviceReply d c reply = reply ≡ (step d c).reply

-- `lent::tongsorrel_lent_write` and its like get an unpaged part u and records ps; they hand back o, and leave the records qs and the reply
abbrev pub LentDone : Unpaged → List Page → Call → Outcome → List Page → Type 0
LentDone u ps c o qs = beside o qs ≡ (step (device u ps) c).done

abbrev pub LentReply : Unpaged → List Page → Call → List ℕ → Type 0
LentReply u ps c reply = reply ≡ (step (device u ps) c).reply

-- `device::power_on` and `lent::tongsorrel_lent_power_on`; by choices, `device::power_on_by` and `lent::tongsorrel_lent_power_on_by`
abbrev pub DevicePowered : Device → Type 0
DevicePowered d = d ≡ power_on (usual 8)

abbrev pub LentPowered : List Page → Outcome → List Page → Type 0
LentPowered ps o qs = beside o qs ≡ powered ps

abbrev pub DevicePoweredBy : List PageChoice → Done → Type 0
DevicePoweredBy cs r = r ≡ power_on_by (choice cs)

abbrev pub LentPoweredBy : List Page → List PageChoice → Outcome → List Page → Type 0
LentPoweredBy ps cs o qs = beside o qs ≡ powered_by (choice cs) ps

-- whether page i supplies: `device::supply::supplies_page` and `lent::tongsorrel_lent_supplies`
abbrev pub DeviceSupplies : Device → ℕ → Bool → Type 0
DeviceSupplies d i r = r ≡ supplies_at d.pages i

abbrev pub LentSupplies : List Page → ℕ → Bool → Type 0
LentSupplies ps i r = r ≡ (ltb i (length ps) && supplies (get_or ps i no_page))

-- ---- the same results

-- a state d with its answer a, and an outcome o with the records beside it, are equal field by field
pub record Same (d : Device) (a : ℕ) (o : Outcome) (qs : List Page) : Type 0 where
  pub answer : o.answer ≡ a
  pub unpaged : o.unpaged ≡ d.unpaged
  pub pages : qs ≡ d.pages

-- the records lent are the pages of d, the unpaged part is that of d
unfoldable pub AnswerAlike : Type 0
AnswerAlike =
    (d : Device) (c : Call) (r : Done) (o : Outcome) (qs : List Page) → DeviceDone d c r → LentDone d.unpaged d.pages c o qs
    → Same r.device r.answer o qs

unfoldable pub ReplyAlike : Type 0
ReplyAlike =
    (d : Device) (c : Call) (reply lentReply : List ℕ) → DeviceReply d c reply → LentReply d.unpaged d.pages c lentReply → lentReply ≡ reply

-- power-on of eight records, whatever they held
unfoldable pub PowerOnAlike : Type 0
PowerOnAlike =
    (d : Device) (ps : List Page) (o : Outcome) (qs : List Page) → length ps ≡ 8 → DevicePowered d → LentPowered ps o qs → Same d 0 o qs

-- and by eight choices, granted or not
unfoldable pub PowerOnByAlike : Type 0
PowerOnByAlike =
    (cs : List PageChoice) (r : Done) (ps : List Page) (o : Outcome) (qs : List Page) → length cs ≡ 8 → length ps ≡ 8 → DevicePoweredBy cs r
    → LentPoweredBy ps cs o qs → Same r.device r.answer o qs

unfoldable pub SuppliesAlike : Type 0
SuppliesAlike = (d : Device) (i : ℕ) (r s : Bool) → DeviceSupplies d i r → LentSupplies d.pages i s → s ≡ r
