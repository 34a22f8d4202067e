-- `layout::stored::store_each` meets its contract.
-- Assumes nothing.
use Rattle.std.proofs.Common.{◌≡◌, ◌+◌, ◌*◌, drop}
use Rattle.layout.specs.Form.{store_all}
use Rattle.layout.proofs.stored.store_each.Given as goal

abbrev pub invariant-loop-x : goal.invariant-loop-x
invariant-loop-x g l =
    (l.at ≡ l.initial.at + l.x-index * g.T.Stored.form.width)
    × (store_all g.T.Stored.form l.s l.at (drop l.x-index l.all) ≡ store_all g.T.Stored.form l.initial.s l.initial.at l.all)
