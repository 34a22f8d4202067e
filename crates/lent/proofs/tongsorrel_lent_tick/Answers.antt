-- `lent::tongsorrel_lent_tick` meets its contract.
-- Assumes nothing.
use Rattle.std.proofs.Common.{◌≡◌, sym, ap, ◌∙◌}
use Rattle.device.specs.Device.{device}
use Rattle.device.specs.Step.{tick, answered}
use Rattle.lent.specs.declared.Outcome.{Outcome}
use Rattle.lent.specs.Lent.{beside, outcome}
use Rattle.lent.proofs.Known.{tick_known}
use Rattle.lent.proofs.Outcomes.{tick_done, tick_kept}
use Rattle.lent.proofs.tongsorrel_lent_tick.Goals as goal
use Rattle.lent.proofs.tongsorrel_lent_tick.Goals.{After-tick_outcome-r}

-- the outcome is the definition's
is : (c : After-tick_outcome-r) → c.tick_outcome-r.result ≡ outcome c.args.u (answered (device c.args.u c.args.pages.now) tick)
is c = tick_known c.args.u c.survey-seen.result c.tick_outcome-r.result c.tick_outcome-r.ensures c.args.pages.now c.survey-seen.ensures

pub returns-then-r-ne-DONE : goal.returns-then-r-ne-DONE
returns-then-r-ne-DONE c =
    let u = c.args.u in
    let ps = c.args.pages.now in
    let e = is (goal.at.returns-then-r-ne-DONE c).After-tick_outcome-r in
    ap (λ (r : Outcome). beside r ps) e ∙ tick_kept u ps (λ z. c.if-r-ne-DONE.true (ap (λ (r : Outcome). r.answer) e ∙ z))

pub returns : goal.returns
returns c =
    let u = c.args.u in
    let ps = c.args.pages.now in
    let e = is (goal.at.returns c).After-tick_outcome-r in
    ap (λ (r : Outcome). beside r c.tick.new.pages) e ∙ ap (beside (outcome u (answered (device u ps) tick))) c.tick.ensures
    ∙ tick_done u ps (sym (ap (λ (r : Outcome). r.answer) e) ∙ c.if-r-ne-DONE.false)
