-- `records::survey` meets its contract.
-- Assumes nothing.
use Rattle.std.proofs.Common.{length, arith, rules}
use borrow.Author.Tests.{tests, lt-ltb, le-ltb}
use Rattle.laws.specs.Lists.{all_of}
use Rattle.laws.proofs.Branches.{either}
use Rattle.laws.proofs.Iterators.{all_of-iter}
use Rattle.page.specs.Settings.{page_valid}
use Rattle.records.specs.Records.{counted}
use Rattle.records.proofs.survey.Goals as goal

pub returns-then-n-gt-MOST : goal.returns-then-n-gt-MOST
unfolding counted
returns-then-n-gt-MOST c = rw (le-ltb _ _ c.if-n-gt-MOST.true)

pub returns : goal.returns
unfolding counted
returns c =
    let ps = c.args.pages.now in
    let valid = all_of-iter page_valid ps _ _ _ c.all-valid.ensures.ran (λ x q k. search (rules, tests)) (λ x q k. search (rules, tests)) cc in
    rw (c.then_some.ensures, valid, lt-ltb (length ps) 97 (omega arith)) (either (all_of page_valid ps) (λ y. rw y) (λ n. rw n))
