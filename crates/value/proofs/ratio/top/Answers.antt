-- `value::ratio::top` meets its contract.
-- Assumes nothing.
use mathlib.Core.Path.{◌≡◌, ap₂, ◌∙◌}
use borrow.Author.Rules.{rules}
use lib.IntN.{pos, ◌-ℤ◌, ◌*ℤ◌}
use mir.Syntax.{w16, w64}
use mir.Val.{to_z, of_z}
use mir.ValLaws.{to_z-of_z}
use Rattle.signs.proofs.Machine.{fits_size, held}
use Rattle.value.proofs.Signed.{product, factor_fits, top_size}
use Rattle.value.proofs.ratio.top.Goals as goal
use Rattle.value.proofs.ratio.top.Goals.{After-from-4}

-- both products as the machine has them
difference : (c : After-from-4)
    → to_z w64 (of_z w64 (to_z w64 (of_z w64 c.from.result) *ℤ to_z w64 (of_z w64 c.from-2.result)))
    -ℤ to_z w64 (of_z w64 (to_z w64 (of_z w64 c.from-3.result) *ℤ to_z w64 (of_z w64 c.from-4.result)))
    ≡ c.args.y *ℤ pos c.args.p -ℤ c.args.b *ℤ pos c.args.q
difference c =
    let a = c.args in
    ap₂ ◌-ℤ◌
    (product w64 a.y (pos a.p) (search rules) (search rules) (c.from.ensures ∙ to_z-of_z w16 a.y c.ranges.y) c.from-2.ensures (factor_fits a.y a.p c.ranges.y c.requires.0))
    (product w64 a.b (pos a.q) (search rules) (search rules) (c.from-3.ensures ∙ to_z-of_z w16 a.b c.ranges.b) c.from-4.ensures (factor_fits a.b a.q c.ranges.b c.requires.1))

pub overflow_sub-result : goal.overflow_sub-result
overflow_sub-result c =
    let a = c.args in
    rw (difference (goal.at.overflow_sub-result c).After-from-4)
    (fits_size _ (top_size a.y a.p a.b a.q c.ranges.y c.requires.0 c.ranges.b c.requires.1))

pub returns-clause-value : goal.returns-clause-value
returns-clause-value c =
    let a = c.args in
    rw (difference (goal.at.returns-clause-value c).After-from-4)
    (held _ (top_size a.y a.p a.b a.q c.ranges.y c.requires.0 c.ranges.b c.requires.1))

pub returns-clause-bound : goal.returns-clause-bound
returns-clause-bound c =
    let a = c.args in
    let size = top_size a.y a.p a.b a.q c.ranges.y c.requires.0 c.ranges.b c.requires.1 in
    rw (difference (goal.at.returns-clause-bound c).After-from-4, held _ size) size
