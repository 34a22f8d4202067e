-- `page::causes::crossed` meets its contract.
-- Assumes nothing.
use Rattle.std.proofs.Common.{rules, ◌≡◌, true, false, get_or}
use mathlib.Core.Path.{ap, ◌∙◌}
use Rattle.cause.specs.Kinds.{quantity_number, limit_number}
use Rattle.cause.specs.Causes.{above, below}
use Rattle.page.specs.Causes.{order_by, crossed, on_side}
use Rattle.page.proofs.Sides.{number, crossed-below, crossed-above, less-below, greater-above}
use Rattle.page.proofs.causes.crossed.Goals as goal
use Rattle.page.proofs.causes.crossed.Goals.{After-compare-order}

-- what was measured, and its order to the limit, by the numbers of the kinds
seen : (c : After-compare-order) → get_or c.args.p.now.measured (quantity_number c.quantity-quantity.result) false ≡ true
seen c = search rules

order : (c : After-compare-order)
    → c.compare-order.result
    ≡ order_by c.args.p.now.formats (quantity_number c.quantity-quantity.result) (get_or c.args.p.now.words (quantity_number c.quantity-quantity.result) 0)
    (get_or c.args.p.now.limits (limit_number c.args.limit) 0)
order c = search rules

pub returns-then-not-p-quantity : goal.returns-then-not-p-quantity
unfolding crossed
returns-then-not-p-quantity c = rw (← c.quantity-quantity.ensures) (search rules)

pub returns-in-UtFault : goal.returns-in-UtFault
unfolding crossed
returns-in-UtFault c =
    let before = (goal.at.returns-in-UtFault c).After-compare-order in
    rw (← c.quantity-quantity.ensures, seen before, number c.args.limit, crossed-below c.args.limit c.in-UtFault.is)
    (c.is_lt.ensures ∙ less-below c.compare-order.result ∙ ap (on_side below) (order before))

pub returns-in_default : goal.returns-in_default
unfolding crossed
returns-in_default c =
    let before = (goal.at.returns-in_default c).After-compare-order in
    let d = c.in_default in
    rw (← c.quantity-quantity.ensures, seen before, number c.args.limit, crossed-above c.args.limit d.not-UtFault d.not-VinUvFault d.not-VinUvWarn)
    (c.is_gt.ensures ∙ greater-above c.compare-order.result ∙ ap (on_side above) (order before))
