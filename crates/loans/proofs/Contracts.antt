-- The lines of specs/Alike.antt are the contracts: what each function ensures, of its arguments a, its result r and its references at exit e, is
-- that line.
-- Assumes nothing.
use mathlib.Core.Path.{◌≡◌, refl}
use seplogic.Ra.Ura.{Ura}
use lib.ListN.{length}
use base.Logic.{SProp}
use prog.Memory.{Memory}
use prog.Routine.{Routine}
use types.Logic.{Logic}
use contract.Lifetimes.{Lfts}
use contract.Monad.{Fun}
use contract.Notation.{Connectives, connectives}
use denote.Triple.Entry.{Args, Res}
use denote.Triple.Clauses.{Ended, AtExit, Clauses}
use Rattle.device.specs.Step.{write, read, measure, sample, alert_response, tick}
use Rattle.loans.specs.Alike.{DeviceDone, DeviceReply, LentDone, LentReply, DevicePowered, LentPowered, DevicePoweredBy, LentPoweredBy, DeviceSupplies, LentSupplies}
use Rattle.device.specs.contracts.power_on as device-power-on
use Rattle.device.specs.contracts.power_on_by as device-power-on-by
use Rattle.device.specs.contracts.write as device-write
use Rattle.device.specs.contracts.read as device-read
use Rattle.device.specs.contracts.measure as device-measure
use Rattle.device.specs.contracts.sample as device-sample
use Rattle.device.specs.contracts.alert_response as device-alert
use Rattle.device.specs.contracts.tick as device-tick
use Rattle.device.specs.contracts.supply.supplies_page as device-supplies
use Rattle.lent.specs.contracts.tongsorrel_lent_power_on as lent-power-on
use Rattle.lent.specs.contracts.tongsorrel_lent_power_on_by as lent-power-on-by
use Rattle.lent.specs.contracts.tongsorrel_lent_write as lent-write
use Rattle.lent.specs.contracts.tongsorrel_lent_read as lent-read
use Rattle.lent.specs.contracts.tongsorrel_lent_measure as lent-measure
use Rattle.lent.specs.contracts.tongsorrel_lent_sample as lent-sample
use Rattle.lent.specs.contracts.tongsorrel_lent_alert_response as lent-alert
use Rattle.lent.specs.contracts.tongsorrel_lent_tick as lent-tick
use Rattle.lent.specs.contracts.tongsorrel_lent_supplies as lent-supplies

module _ {M : Type 1} (𝓤 : Ura M) (T : Ended) where
  abbrev Promise : Type 2
  Promise = (κs : Lfts T.signature.lifetimes) → Args T.signature κs → Res T.signature κs → AtExit T κs → SProp 𝓤

  abbrev Ensures : Clauses 𝓤 T → Promise → Type 2
  Ensures c p = (κs : Lfts T.signature.lifetimes) (a : Args T.signature κs) (g : (c κs a).ghost) (r : Res T.signature κs) (e : AtExit T κs)
      → (c κs a).ensures g r e ≡ p κs a r e

module _ {M : Type 1} (𝓤 : Ura M) (𝓛 : Logic 𝓤) (mem : Memory → SProp 𝓤) (run : Routine → Fun 𝓤) where
  abbrev 𝓝 : Connectives 𝓤
  𝓝 = connectives 𝓤

  open 𝓝 use {⌜◌⌝, ◌∗◌}

  -- ---- the eight-page device: a state, and what the kind of call takes
  pub of_device_power_on : Ensures 𝓤 device-power-on.ended (device-power-on.clauses 𝓛 mem run)
      (λ κs a r e. ⌜ DevicePowered r ⌝)
  of_device_power_on κs a g r e = refl

  pub of_device_power_on_by : Ensures 𝓤 device-power-on-by.ended (device-power-on-by.clauses 𝓛 mem run)
      (λ κs a r e. ⌜ DevicePoweredBy a.0 r ⌝)
  of_device_power_on_by κs a g r e = refl

  pub of_device_write : Ensures 𝓤 device-write.ended (device-write.clauses 𝓛 mem run)
      (λ κs a r e. ⌜ DeviceDone a.0 (write a.1.0.now) r ⌝)
  of_device_write κs a g r e = refl

  pub of_device_read : Ensures 𝓤 device-read.ended (device-read.clauses 𝓛 mem run)
      (λ κs a r e. ⌜ DeviceDone a.0 (read a.1.0.now (length a.1.1.0.now)) r ⌝
      ∗ ⌜ DeviceReply a.0 (read a.1.0.now (length a.1.1.0.now)) e.1.1.0.now ⌝)
  of_device_read κs a g r e = refl

  pub of_device_measure : Ensures 𝓤 device-measure.ended (device-measure.clauses 𝓛 mem run)
      (λ κs a r e. ⌜ DeviceDone a.0 (measure a.1.0 a.1.1.0 a.1.1.1.0) r ⌝)
  of_device_measure κs a g r e = refl

  pub of_device_sample : Ensures 𝓤 device-sample.ended (device-sample.clauses 𝓛 mem run)
      (λ κs a r e. ⌜ DeviceDone a.0 (sample a.1.0) r ⌝)
  of_device_sample κs a g r e = refl

  pub of_device_alert : Ensures 𝓤 device-alert.ended (device-alert.clauses 𝓛 mem run)
      (λ κs a r e. ⌜ DeviceDone a.0 (alert_response (length a.1.0.now)) r ⌝
      ∗ ⌜ DeviceReply a.0 (alert_response (length a.1.0.now)) e.1.0.now ⌝)
  of_device_alert κs a g r e = refl

  pub of_device_tick : Ensures 𝓤 device-tick.ended (device-tick.clauses 𝓛 mem run)
      (λ κs a r e. ⌜ DeviceDone a.0 tick r ⌝)
  of_device_tick κs a g r e = refl

  pub of_device_supplies : Ensures 𝓤 device-supplies.ended (device-supplies.clauses 𝓛 mem run)
      (λ κs a r e. ⌜ DeviceSupplies a.0 a.1.0 r ⌝)
  of_device_supplies κs a g r e = refl

  -- ---- the device over lent records: an unpaged part, the records, and what the kind of call takes
  pub of_lent_power_on : Ensures 𝓤 lent-power-on.ended (lent-power-on.clauses 𝓛 mem run)
      (λ κs a r e. ⌜ LentPowered a.0.now r e.0.now ⌝)
  of_lent_power_on κs a g r e = refl

  pub of_lent_power_on_by : Ensures 𝓤 lent-power-on-by.ended (lent-power-on-by.clauses 𝓛 mem run)
      (λ κs a r e. ⌜ LentPoweredBy a.0.now a.1.0.now r e.0.now ⌝)
  of_lent_power_on_by κs a g r e = refl

  pub of_lent_write : Ensures 𝓤 lent-write.ended (lent-write.clauses 𝓛 mem run)
      (λ κs a r e. ⌜ LentDone a.0 a.1.0.now (write a.1.1.0.now) r e.1.0.now ⌝)
  of_lent_write κs a g r e = refl

  pub of_lent_read : Ensures 𝓤 lent-read.ended (lent-read.clauses 𝓛 mem run)
      (λ κs a r e. ⌜ LentDone a.0 a.1.0.now (read a.1.1.0.now (length a.1.1.1.0.now)) r a.1.0.now
      × LentReply a.0 a.1.0.now (read a.1.1.0.now (length a.1.1.1.0.now)) e.1.1.1.0.now ⌝)
  of_lent_read κs a g r e = refl

  pub of_lent_measure : Ensures 𝓤 lent-measure.ended (lent-measure.clauses 𝓛 mem run)
      (λ κs a r e. ⌜ LentDone a.0 a.1.0.now (measure a.1.1.0 a.1.1.1.0 a.1.1.1.1.0) r e.1.0.now ⌝)
  of_lent_measure κs a g r e = refl

  pub of_lent_sample : Ensures 𝓤 lent-sample.ended (lent-sample.clauses 𝓛 mem run)
      (λ κs a r e. ⌜ LentDone a.0 a.1.0.now (sample a.1.1.0) r a.1.0.now ⌝)
  of_lent_sample κs a g r e = refl

  pub of_lent_alert : Ensures 𝓤 lent-alert.ended (lent-alert.clauses 𝓛 mem run)
      (λ κs a r e. ⌜ LentDone a.0 a.1.0.now (alert_response (length a.1.1.0.now)) r a.1.0.now
      × LentReply a.0 a.1.0.now (alert_response (length a.1.1.0.now)) e.1.1.0.now ⌝)
  of_lent_alert κs a g r e = refl

  pub of_lent_tick : Ensures 𝓤 lent-tick.ended (lent-tick.clauses 𝓛 mem run)
      (λ κs a r e. ⌜ LentDone a.0 a.1.0.now tick r e.1.0.now ⌝)
  of_lent_tick κs a g r e = refl

  pub of_lent_supplies : Ensures 𝓤 lent-supplies.ended (lent-supplies.clauses 𝓛 mem run)
      (λ κs a r e. ⌜ LentSupplies a.0.now a.1.0 r ⌝)
  of_lent_supplies κs a g r e = refl
