-- `records::put` meets its contract.
-- Assumes nothing.
use Rattle.std.proofs.Common.{length, sym, arith}
use Rattle.std.proofs.Math.Seq.{set_out}
use borrow.Author.Tests.{lt-ltb, le-ltb}
use Rattle.laws.proofs.Branches.{cond_same}
use Rattle.records.specs.Records.{put_back}
use Rattle.records.proofs.put.Goals as goal
use Rattle.records.proofs.put.Goals.{else-k-pages-via-then-k-pages+else-pages-le-MOST, else-k-pages-via-else-k-pages}

pub returns-then-pages-le-MOST : goal.returns-then-pages-le-MOST
unfolding put_back
returns-then-pages-le-MOST c = rw (lt-ltb (length c.args.pages.now) 97 (omega arith), c.from-k.ensures)

pub returns-else-k-pages : goal.returns-else-k-pages
unfolding put_back
returns-else-k-pages c =
    let ps = c.args.pages.now in
    elim c.else-k-pages.branch [
      | else-k-pages-via-then-k-pages+else-pages-le-MOST w ↦ rw (le-ltb (length ps) 97 (omega arith))
      | else-k-pages-via-else-k-pages w ↦ rw (set_out ps c.args.i c.args.p (omega arith)) (sym (cond_same _ ps))
    ]
