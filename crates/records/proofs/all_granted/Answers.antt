-- `records::all_granted` meets its contract.
-- Assumes nothing.
use Rattle.std.proofs.Common.{rules}
use borrow.Author.Tests.{tests}
use Rattle.laws.proofs.Iterators.{all_of-iter}
use Rattle.page.specs.Choice.{page_granted}
use Rattle.records.proofs.all_granted.Goals as goal

pub returns : goal.returns
returns c = all_of-iter page_granted c.args.choices.now _ _ _ c.all.ensures.ran (λ x q k. search (rules, tests)) (λ x q k. search (rules, tests)) cc
