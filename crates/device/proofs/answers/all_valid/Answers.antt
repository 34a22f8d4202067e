-- `device::answers::all_valid` meets its contract.
-- Assumes nothing.
use Rattle.std.proofs.Common.{rules}
use borrow.Author.Tests.{tests}
use Rattle.laws.proofs.Iterators.{all_of-iter}
use Rattle.page.specs.Settings.{page_valid}
use Rattle.device.proofs.answers.all_valid.Goals as goal

pub returns : goal.returns
returns c = all_of-iter page_valid c.args.pages.now _ _ _ c.all.ensures.ran (λ x q k. search (rules, tests)) (λ x q k. search (rules, tests)) cc
