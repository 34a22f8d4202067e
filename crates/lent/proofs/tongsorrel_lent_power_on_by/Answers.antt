-- `lent::tongsorrel_lent_power_on_by` meets its contract.
-- Assumes nothing.
use Rattle.std.proofs.Common.{sym, ap, ◌∙◌}
use Rattle.lent.specs.declared.Outcome.{Outcome}
use Rattle.lent.specs.Lent.{beside}
use Rattle.lent.proofs.Powered.{is_kept, is_usual, is_each}
use Rattle.lent.proofs.tongsorrel_lent_power_on_by.Goals as goal

pub returns-then-not-lendable : goal.returns-then-not-lendable
returns-then-not-lendable c =
    let ps = c.args.pages.now in
    ap (λ (r : Outcome). beside r ps) c.powered.ensures ∙ sym (is_kept ps c.args.choices.now (sym c.lendable.ensures ∙ c.if-not-lendable.true))

pub returns-then-not-all_granted : goal.returns-then-not-all_granted
returns-then-not-all_granted c =
    rw (c.powered-then-not-all_granted.ensures, c.power_on.ensures)
    (sym (is_usual c.args.pages.now c.args.choices.now (sym c.lendable.ensures ∙ c.if-not-lendable.false) (sym c.all_granted.ensures ∙ c.if-not-all_granted.true)))

pub returns : goal.returns
returns c =
    rw (c.powered-2.ensures, c.power_on_by.ensures)
    (sym (is_each c.args.pages.now c.args.choices.now (sym c.lendable.ensures ∙ c.if-not-lendable.false) (sym c.all_granted.ensures ∙ c.if-not-all_granted.false)))
