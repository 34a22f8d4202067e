-- `device::steps::alert_after` meets its contract.
-- Assumes nothing.
use Rattle.std.proofs.Common.{sym, ◌∙◌, rules}
use borrow.Author.Tests.{tests}
use Rattle.laws.proofs.Iterators.{any_of-iter}
use Rattle.page.specs.Status.{any_status}
use Rattle.device.proofs.steps.alert_after.Goals as goal

pub returns-else-any : goal.returns-else-any
returns-else-any c =
    rw (sym c.clears.ensures ∙ c.if-clears.true, sym (any_of-iter any_status c.args.pages.now _ _ _ c.any.ensures.ran (λ x q k. search (rules, tests)) (λ x q k. search (rules, tests)) cc) ∙ c.if-any.false)
