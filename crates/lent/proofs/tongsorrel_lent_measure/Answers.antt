-- `lent::tongsorrel_lent_measure` meets its contract.
-- Assumes nothing.
use Rattle.std.proofs.Common.{ap, ◌∙◌}
use Rattle.lent.specs.Lent.{beside}
use Rattle.lent.proofs.Known.{measure_known}
use Rattle.lent.proofs.Outcomes.{measure_lent}
use Rattle.lent.proofs.tongsorrel_lent_measure.Goals as goal

pub returns : goal.returns
returns c =
    let u = c.args.u in
    let ps = c.args.pages.now in
    let t = c.measure_turn-t.result in
    ap (beside t.outcome) c.put.ensures
    ∙ measure_lent u ps c.args.page c.args.quantity c.args.word c.take-p.result t c.take-p.ensures
    (measure_known u c.survey-seen.result c.take-p.result c.args.page c.args.quantity c.args.word t c.measure_turn-t.ensures ps c.survey-seen.ensures)
