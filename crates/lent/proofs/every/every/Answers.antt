-- `lent::every::every` meets its contract.
-- Assumes nothing.
use Rattle.std.proofs.Common.{◌∙◌, arith}
use Rattle.laws.proofs.Sweeps.{swept_more, swept_all}
use Rattle.page.specs.Page.{no_page}
use Rattle.page.specs.Status.{risen}
use Rattle.writes.specs.Left.{page_left}
use Rattle.lent.proofs.Sweep.{swept_here, found_more, found_all}
use Rattle.lent.proofs.every.every.Goals as goal

pub loop-p-preserved : goal.loop-p-preserved
loop-p-preserved c =
    let ps = c.args.pages.now in
    let i = c.loop-p.p-index in
    let f = page_left c.args.w in
    let here = swept_here no_page f risen ps i c.loop-p.pages (omega arith) c.loop-p.invariant.changed in
    record {
      changed = swept_more f no_page ps c.loop-p.pages i c.loop-p.invariant.changed c.page_left-q.result (omega arith) c.page_left-q.ensures;
      found = found_more no_page f risen ps i c.loop-p.rose c.risen-rose.result (omega arith)
          (c.risen-rose.ensures ∙ rw (c.page_left-q.ensures, here)) c.loop-p.invariant.found;
    }

pub returns : goal.returns
returns c =
    let ps = c.args.pages.now in
    let i = c.loop-p.p-index in
    let f = page_left c.args.w in
    record {
      rose = found_all no_page f risen ps i c.loop-p.rose (omega arith) c.loop-p.invariant.found;
      after = swept_all f no_page ps c.loop-p.pages i c.loop-p.invariant.changed (omega arith);
    }
