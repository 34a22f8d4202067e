-- Everything that is guaranteed of the device, over single calls and over runs from power-on: the table of contents of this folder, a line
-- for each statement. proofs/Claims.antt proves the whole, so that none goes missing.
-- Assumes nothing.
use Rattle.writes.specs.Accepted.{Accepted}
use Rattle.device.specs.Touches.{PagesStay}
use Rattle.retry.specs.Claims.{RetryClaims}
use Rattle.history.specs.Valid.{Fifteen, ReachedWhole, ReachedValid, NoFifteen}
use Rattle.history.specs.Refusals.{Refused, Unchanged}
use Rattle.history.specs.Accepted.{TakesEffect}
use Rattle.history.specs.Clearing.{Falls, FallsCml}
use Rattle.history.specs.Latching.{Latched, Latches, LatchesCml}
use Rattle.history.specs.Tripping.{Tripped, StaysTripped, Trips}
use Rattle.history.specs.Retry.{TickQuiet, MachineMoves, StaysDown, LetsOnAgain, LetsOnByTicks, TripsByTicks, AtMost}
use Rattle.history.specs.Occurs.{MachineOccurs}
use Rattle.history.specs.Warnings.{StayAlike, ReplyAlike, WarnLimitsAside, SupplyAlike}
use Rattle.history.specs.Alert.{AlertRises, AlertCleared, AlertAnswered}
use Rattle.history.specs.Energy.{TotalsTrusted}
use Rattle.history.specs.Effects.{Effects}
use Rattle.history.specs.ReadBack.{StoredCodes, WrittenBack, WriteThenRead, MeasuredBack}
use Rattle.page.specs.Presence.{PresentExactly}
use Rattle.page.specs.Supplies.{SuppliesExactly}
use Rattle.history.specs.Formats.{FormatsStay}
use Rattle.history.specs.Presence.{PresentMeans}
use Rattle.history.specs.Supplies.{HeldOff, SuppliesAsked}
use Rattle.history.specs.PowerOn.{PowerOnQuiet}
use Rattle.history.specs.ValidFields.{FifteenByField}
use Rattle.history.specs.EveryPage.{AsSelected, PagedAgrees}
use Rattle.history.specs.PowerOnReads.{PowerOnReads}
use Rattle.history.specs.EnergyExample.{CopiesOccur}
use Rattle.page.specs.ValidFields.{PageValidByField}
use Rattle.unpaged.specs.ValidFields.{UnpagedValidByField}
use Rattle.writes.specs.Shows.{PresentShows}
use Rattle.reads.specs.Gives.{ReadsGive, AlertReplies}
use Rattle.totalizer.specs.Applies.{TakesApply}

pub record Claims : Type 0 where
  -- ---- which states get answer 15 (Valid.antt; data sheet 12)
  -- every call to a state that is not valid gets 15, and no other call does
  pub fifteen : Fifteen
  -- a run has as many pages as were chosen throughout
  pub reached-whole : ReachedWhole
  -- with a granted choice, so one to ninety-six pages, each of its states is valid
  pub reached-valid : ReachedValid
  -- so that none of its calls gets 15
  pub no_fifteen : NoFifteen
  -- ---- what a call leaves alone (Refusals.antt, `device`'s Touches.antt; data sheet 11.6, 3.2)
  -- a refusal changes at most STATUS_CML and the alert
  pub refused : Refused
  -- and with answers 1, 2 and 12 to 15 nothing at all
  pub unchanged : Unchanged
  -- a write changes no page that it does not act on, a measurement none that it does not name, a read, a sample and an alert response none
  pub pages_stay : PagesStay
  -- with answer 0 a read changes nothing, an alert response only the alert, a sample only the account, a measurement only its page and the
  -- alert, a tick only machines and trips, and a write neither the account nor a measured word (Effects.antt)
  pub effects : Effects
  -- ---- which writes are accepted (Accepted.antt; data sheet 3.7)
  -- answer 0 exactly where a write is well formed, permitted and of valid data
  pub accepted : Accepted
  -- and then it takes effect
  pub takes_effect : TakesEffect
  -- ---- what is read back (ReadBack.antt; data sheet 3.4, 5.7)
  -- the codes that keep what is written to them are all that the table has as written and read, but the status registers
  pub stored-codes : StoredCodes
  -- after every run such a code reads as its latest accepted write, on that page, or as power-on left it
  pub written_back : WrittenBack
  -- right after an accepted write it reads the data written
  pub write_then_read : WriteThenRead
  -- after every run a READ code gives the latest word measured on that page, or 0000h
  pub measured-back : MeasuredBack
  -- ---- status bits (Clearing.antt, Latching.antt; data sheet 6.4, 6.5, 6.9)
  -- a bit of a page falls by a listed clearing alone
  pub falls : Falls
  -- so does a bit of STATUS_CML
  pub falls-cml : FallsCml
  -- after every call of a run each present cause and warning has its bit
  pub latched : Latched
  -- each bit of a page after a call, in one equation
  pub latches : Latches
  -- each bit of STATUS_CML after a call, in one equation
  pub latches-cml : LatchesCml
  -- ---- trips (Tripping.antt; data sheet 7.1, 7.2, 7.4)
  -- after every call of a run a page with a present cause whose response shuts down and stays off is tripped
  pub tripped : Tripped
  -- OPERATION 00h or 40h alone ends a trip
  pub stays-tripped : StaysTripped
  -- the trip after a call, in one equation
  pub trips : Trips
  -- ---- retry machines (Retry.antt; data sheet 7.8 to 7.11)
  -- a tick sets no bit and leaves the alert
  pub tick_quiet : TickQuiet
  -- a machine that has tripped its page stays so until OPERATION 00h or 40h or its own response is written
  pub stays-down : StaysDown
  -- while its cause lasts a machine with 1 to 6 retries lets its page on at most as many times, and exactly as many within 56 ticks of its start
  pub lets_on-again : LetsOnAgain
  -- and with any retries at the very ticks
  pub lets_on-by_ticks : LetsOnByTicks
  -- one machine by itself: looks at the cause, ticks, tries, values (`retry`'s Claims.antt)
  pub machine : RetryClaims
  -- each machine of a run after a call, in one equation
  pub machine_moves : MachineMoves
  -- while its cause lasts a machine with 6 retries or fewer trips its page at the tick of the look after the last try
  pub trips-by_ticks : TripsByTicks
  -- whatever the cause does, from one rest to the next it lets its page on at most as many times as its retries say
  pub at_most : AtMost
  -- each of the sixty-five values of a machine's byte occurs in a run, on every page (Occurs.antt)
  pub machine_occurs : MachineOccurs
  -- ---- warnings (Warnings.antt; data sheet 6.15)
  -- devices that differ in warn limits, warnings' bits and the alert answer alike and stay so
  pub stay_alike : StayAlike
  -- and reply alike to reads of codes that show no warnings
  pub reply-alike : ReplyAlike
  -- a run goes on alike with an accepted write of a warn limit and without it
  pub warn_limits_aside : WarnLimitsAside
  -- and alike pages supply alike
  pub supply_alike : SupplyAlike
  -- ---- the alert (Alert.antt; data sheet 8)
  -- it rises exactly with a bit that turns from 0 to 1, and stays up
  pub alert_rises : AlertRises
  -- after a clearing it is up exactly while some bit is 1
  pub alert_cleared : AlertCleared
  -- an answered alert response leaves it down
  pub alert_answered : AlertAnswered
  -- ---- energy (Energy.antt; data sheet 10)
  -- the host's totals are those of the samples that the device took, whichever replies are lost, repeated or damaged
  pub totals-trusted : TotalsTrusted
  -- ---- presence and supplying, a second time (Presence.antt, Supplies.antt, PowerOn.antt, `page`'s; data sheet 6.2, 7.6, 1.4)
  -- a cause or warning of a page is present exactly where its quantity was measured and lies strictly past its limit, by exact value
  pub present-exactly : PresentExactly
  -- a page keeps the formats that were chosen for it at power-on
  pub formats_stay : FormatsStay
  -- so after every run, by the latest measurement and the latest limit written, or power-on's
  pub present-means : PresentMeans
  -- a page supplies exactly when it is on, not tripped, kept off by no present cause and held off by no machine
  pub supplies-exactly : SuppliesExactly
  -- STATUS_BYTE bit 6 and STATUS_WORD bit 11 are read as 0 exactly where the page supplies
  pub held-off : HeldOff
  -- and the firmware that asks whether a page supplies is told the same
  pub supplies-asked : SuppliesAsked
  -- after power-on nothing is present, no bit is 1, no page is tripped or supplies, and the alert is down
  pub power_on-quiet : PowerOnQuiet
  -- ---- the same in numbers: by field and by code (ValidFields.antt, EveryPage.antt, PowerOnReads.antt; data sheet 12.2, 3.1, 3.2, 3.8, 1.4)
  -- answer 15 exactly by a list of fields, every other one aside; the lists of a page and of the unpaged part
  pub fifteen-by_field : FifteenByField
  pub page-valid-by_field : PageValidByField
  pub unpaged-valid-by_field : UnpagedValidByField
  -- what a read of each code gives, and the reply to an alert response (`reads`, Gives.antt)
  pub reads_give : ReadsGive
  pub alert_replies : AlertReplies
  -- what every code reads right after power-on, and that the alert is down
  pub power_on-reads : PowerOnReads
  -- a write of a paged code leaves the bit of what is present at 1 (`writes`, Shows.antt)
  pub present-shows : PresentShows
  -- under PAGE FFh a write answers and leaves each page as with that page selected
  pub as_selected : AsSelected
  -- the codes without a page are those whose data do not depend on one
  pub paged-agrees : PagedAgrees
  -- ---- energy, by example and by answer (EnergyExample.antt, `totalizer`'s Applies.antt; data sheet 10, 11.5)
  -- a run with copies of replies, one damaged, and its history: what the guarantee is about occurs
  pub copies_occur : CopiesOccur
  -- when each answer of the totalizer applies, by the bytes, and what it leaves
  pub takes_apply : TakesApply
