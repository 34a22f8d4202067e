-- The device after power-on: nothing has happened yet.
-- Assumes nothing.
use mathlib.Core.Path.{ap}
use Rattle.account.specs.declared.Account.{Account}
use Rattle.page.specs.PowerOn as page
use Rattle.page.proofs.PowerOn as page-proofs
use Rattle.device.specs.Device.{choice_at}
use Rattle.device.proofs.PowerOn.{powered}
use Rattle.history.specs.PowerOn.{PowerOnQuiet}

pub power_on-quiet : PowerOnQuiet
unfolding PowerOnQuiet page.PowerOnQuiet
power_on-quiet x =
    let d = powered x in (
      record {
        page = d.selected;
        protect = d.protect;
        cml = d.cml;
        alert = d.alert;
        accumulator = ap (λ (a : Account). a.accumulator) d.energy;
        rollover = ap (λ (a : Account). a.rollover) d.energy;
        count = ap (λ (a : Account). a.count) d.energy;
      },
      λ i h. rw (d.page i h) (page-proofs.power_on-quiet (choice_at x i)),
    )
