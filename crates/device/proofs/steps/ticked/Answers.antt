-- `device::steps::ticked` meets its contract.
-- Assumes nothing.
use Rattle.std.proofs.Common.{◌≡◌, length, ap, arith, rules}
use Rattle.laws.proofs.Folds.{length-mapped}
use Rattle.laws.proofs.Sweeps.{swept_more, swept_all}
use Rattle.page.specs.Page.{no_page}
use Rattle.page.specs.Causes.{ticked}
use Rattle.device.specs.Device.{device}
use Rattle.device.specs.Step.{ticked_device}
use Rattle.device.proofs.steps.ticked.Goals as goal

pub loop-p-preserved : goal.loop-p-preserved
loop-p-preserved c =
    let ps = c.args.d.now.pages in
    let long : length ps ≡ 8 = search (rules, length-mapped) in
    swept_more ticked _ ps c.loop-p.p-items c.loop-p.p-index c.loop-p.invariant c.ticked.result (omega (arith, long)) c.ticked.ensures

pub returns : goal.returns
unfolding ticked_device
returns c =
    let d = c.args.d.now in
    let long : length d.pages ≡ 8 = search (rules, length-mapped) in
    ap (device d.unpaged) (swept_all ticked no_page d.pages c.loop-p.p-items c.loop-p.p-index c.loop-p.invariant (omega (arith, long)))
