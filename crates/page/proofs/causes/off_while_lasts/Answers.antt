-- `page::causes::off_while_lasts` meets its contract.
-- Assumes nothing.
use Rattle.std.proofs.Common.{rules}
use mathlib.Core.Path.{◌∙◌}
use borrow.Author.Tests.{tests}
use Rattle.laws.proofs.Iterators.{any_of-iter}
use Rattle.page.proofs.Written.{lasting, retried, off_while_lasts_lem}
use Rattle.page.proofs.causes.off_while_lasts.Goals as goal

pub returns : goal.returns
returns c =
    let a = c.args in
    any_of-iter (lasting a.present a.responses) retried _ _ _ c.any.ensures.ran (λ x q k. search (rules, tests)) (λ x q k. search (rules, tests)) (cc)
    ∙ off_while_lasts_lem a.present a.responses
