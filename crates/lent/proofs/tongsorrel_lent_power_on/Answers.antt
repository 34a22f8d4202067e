-- `lent::tongsorrel_lent_power_on` meets its contract.
-- Assumes nothing.
use Rattle.std.proofs.Common.{sym, ap, ◌∙◌}
use Rattle.lent.specs.declared.Outcome.{Outcome}
use Rattle.lent.specs.Lent.{beside}
use Rattle.lent.proofs.Powered.{usual_kept, usual_done}
use Rattle.lent.proofs.tongsorrel_lent_power_on.Goals as goal

pub returns-then-not-lendable : goal.returns-then-not-lendable
returns-then-not-lendable c =
    let ps = c.args.pages.now in
    ap (λ (r : Outcome). beside r ps) c.powered.ensures ∙ sym (usual_kept ps (sym c.lendable.ensures ∙ c.if-not-lendable.true))

pub returns : goal.returns
returns c = rw (c.powered-2.ensures, c.power_on.ensures) (sym (usual_done c.args.pages.now (sym c.lendable.ensures ∙ c.if-not-lendable.false)))
