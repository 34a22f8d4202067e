-- `buffer::every_page::write_each` meets its contract.
-- Assumes nothing.
use Rattle.std.proofs.Common.{arith, rules, ap, ap₂, ◌∙◌}
use Rattle.page.specs.Status.{risen}
use Rattle.writes.specs.Left.{page_left}
use Rattle.layout.specs.Layout.{pages_in}
use Rattle.layout.proofs.Shapes.{Shape}
use Rattle.buffer.proofs.Changing.{walked_from, walked_turn, pair_turn}
use Rattle.buffer.proofs.every_page.write_each.Goals as goal

pub loop-i-preserved : goal.loop-i-preserved
loop-i-preserved c =
    let h = c.loop-i in
    let w = h.invariant.0 in
    let shape : Shape c.page_left-q.result = record {
      limits = search rules;
      responses = search rules;
      machines = search rules;
      words = search rules;
      measured = search rules;
      status = search rules;
      formats = search rules;
    } in
    let from = walked_from _ _ _ _ w (omega arith) _ _ _ c.load_page-p.ensures shape c.set_page.ensures in (
      walked_turn _ _ _ _ w (omega arith) _ _ _ c.load_page-p.ensures shape c.set_page.ensures c.page_left-q.ensures,
      pair_turn risen (page_left c.args.w) (pages_in c.args.s.now) h.rose _ h.i (omega arith)
          (c.risen-rose.ensures ∙ ap₂ risen from (c.page_left-q.ensures ∙ ap (page_left c.args.w) from)) h.invariant.1,
    )
