-- `layout::stored::all_valid` meets its contract.
-- Assumes nothing.
use Rattle.std.proofs.Common.{◌≡◌, ◌+◌, ◌-◌, ◌*◌}
use Rattle.laws.specs.Lists.{all_of}
use Rattle.layout.specs.Form.{get_all}
use Rattle.layout.proofs.stored.all_valid.Given as goal

abbrev pub invariant-loop-i : goal.invariant-loop-i
invariant-loop-i g l =
    all_of g.T.Checked.is_valid (get_all g.T.Stored.form (g.row.N - l.i) l.s (l.at + g.T.Checked.WIDE * l.i))
    ≡ all_of g.T.Checked.is_valid (get_all g.T.Stored.form g.row.N l.s l.at)
