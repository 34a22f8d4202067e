-- `layout::stored::ArrayStored::load` meets its contract.
-- Assumes nothing.
use Rattle.std.proofs.Common.{arith, ◌∙◌, length-set}
use Rattle.layout.proofs.Laws.{load_turn, load_end}
use Rattle.layout.proofs.stored.ArrayStored.load.Goals as goal

pub loop-x-preserved : goal.loop-x-preserved
loop-x-preserved g c =
    let h = c.loop-x.invariant in
    let r = c.load.ensures.value in (
      omega arith,
      load_turn g.T.Stored.form c.loop-x.x-index _ _ _ _ _ (omega arith) h.0 h.1 r,
      length-set _ _ _ ∙ h.2,
    )

pub returns-clause-value : goal.returns-clause-value
returns-clause-value g c =
    let h = c.loop-x.invariant in
    load_end g.T.Stored.form _ c.loop-x.x-index _ _ _ h.2 (omega arith) (omega arith) h.1
