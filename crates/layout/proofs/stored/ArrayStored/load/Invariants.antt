-- `layout::stored::ArrayStored::load` meets its contract.
-- Assumes nothing.
use Rattle.std.proofs.Common.{◌≡◌, ◌+◌, ◌*◌, take, length}
use Rattle.layout.specs.Form.{get_all}
use Rattle.layout.proofs.stored.ArrayStored.load.Given as goal

abbrev pub invariant-loop-x : goal.invariant-loop-x
invariant-loop-x g l =
    (l.at ≡ l.initial.at + l.x-index * g.T.Stored.form.width)
    × (take l.x-index l.x-items ≡ get_all g.T.Stored.form l.x-index l.s l.initial.at)
    × (length l.x-items ≡ g.row.N)
