-- `records::any_bit` meets its contract.
-- Assumes nothing.
use Rattle.std.proofs.Common.{rules}
use borrow.Author.Tests.{tests}
use Rattle.laws.proofs.Iterators.{any_of-iter}
use Rattle.page.specs.Status.{any_status}
use Rattle.records.proofs.any_bit.Goals as goal

pub returns : goal.returns
returns c = any_of-iter any_status c.args.pages.now _ _ _ c.any.ensures.ran (λ x q k. search (rules, tests)) (λ x q k. search (rules, tests)) cc
