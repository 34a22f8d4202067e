-- `buffer::every_page::fill_each` meets its contract.
-- Assumes nothing.
use Rattle.std.proofs.Common.{arith, rules, refl}
use Rattle.layout.proofs.Shapes.{Shape}
use Rattle.buffer.proofs.Changing.{walked_turn}
use Rattle.buffer.proofs.every_page.fill_each.Goals as goal

pub loop-i-preserved : goal.loop-i-preserved
loop-i-preserved g c =
    let shape : Shape c.of.result = record {
      limits = search rules;
      responses = search rules;
      machines = search rules;
      words = search rules;
      measured = search rules;
      status = search rules;
      formats = search rules;
    } in
    walked_turn _ _ _ _ c.loop-i.invariant (omega arith) _ _ _ refl shape c.set_page.ensures c.of.ensures
