-- `layout::stored::all_valid` meets its contract.
-- Assumes nothing.
use Rattle.std.proofs.Common.{ℕ, ◌+◌, ◌*◌, ap, ◌∙◌, arith}
use Rattle.layout.proofs.Laws.{tested_turn}
use Rattle.layout.proofs.stored.all_valid.Goals as goal

pub loop-i-preserved : goal.loop-i-preserved
loop-i-preserved g c =
    let s = c.args.s.now in
    let i = c.loop-i.i in
    let wide = g.met.T.Checked.wide in
    let here = c.valid_at.ensures ∙ ap (λ (w : ℕ). g.T.Checked.is_valid (g.T.Stored.form.get s (c.args.at + w * i))) c.WIDE.ensures in
    tested_turn g.T.Stored.form g.T.Checked.is_valid g.row.N i s _ _ _ _ (omega arith) here c.if-not-valid_at.false (rw wide (omega arith)) c.loop-i.invariant
