-- `records::take` meets its contract.
-- Assumes nothing.
use Rattle.std.proofs.Common.{length, arith, rules}
use borrow.Author.Tests.{lt-ltb, le-ltb}
use Rattle.records.specs.Records.{taken}
use Rattle.records.proofs.take.Goals as goal

pub returns-then-pages-gt-MOST : goal.returns-then-pages-gt-MOST
unfolding taken
returns-then-pages-gt-MOST c = rw (le-ltb _ _ c.if-pages-gt-MOST.true) c.power_on_page.ensures

pub returns : goal.returns
unfolding taken
returns c = rw (lt-ltb (length c.args.pages.now) 97 (omega arith)) (search rules)
