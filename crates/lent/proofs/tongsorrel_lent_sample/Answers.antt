-- `lent::tongsorrel_lent_sample` meets its contract.
-- Assumes nothing.
use Rattle.lent.proofs.Known.{sample_known}
use Rattle.lent.proofs.tongsorrel_lent_sample.Goals as goal

pub returns : goal.returns
returns c = sample_known c.args.u c.survey-seen.result c.args.power c.sample_outcome.result c.sample_outcome.ensures c.args.pages.now c.survey-seen.ensures
