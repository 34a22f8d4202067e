-- `linear11::compare_linear11` meets its contract.
-- Assumes nothing.
use mathlib.Core.Path.{ap₂, ◌∙◌}
use borrow.Author.Rules.{rules}
use mir.Syntax.{w64}
use mir.ValLaws.{to_z-of_z}
use Rattle.linear11.specs.Linear11.{order_of, linear_order}
use Rattle.linear11.proofs.compare_linear11.Goals as goal

pub returns : goal.returns
unfolding linear_order order_of
returns c =
    c.cmp.ensures
    ∙ ap₂ order_of (to_z-of_z w64 c.scaled.result (search rules) ∙ c.scaled.ensures)
    (to_z-of_z w64 c.scaled-2.result (search rules) ∙ c.scaled-2.ensures)
