-- `value::ratio::Ratio::compare` meets its contract: 128 bits hold the products.
-- Assumes nothing.
use mathlib.Core.Path.{ap₂, ◌∙◌}
use native.Mathlib.Omega.{arith}
use borrow.Author.Rules.{rules}
use lib.IntN.{pos}
use mir.Syntax.{w64, w128}
use mir.ValLaws.{to_z-of_z}
use Rattle.linear11.specs.Linear11.{order_of}
use Rattle.value.specs.Value.{ratio_order}
use Rattle.value.proofs.Signed.{product, product_fits}
use Rattle.value.proofs.ratio.Ratio.compare.Goals as goal

pub returns : goal.returns
unfolding ratio_order order_of
returns c =
    let x = c.args.self in
    let y = c.args.other in
    c.cmp.ensures
    ∙ ap₂ order_of
    (product w128 x.num (pos y.den) (search rules) (search rules) (c.from.ensures ∙ to_z-of_z w64 x.num (search rules)) c.from-2.ensures
    (product_fits x.num y.den (search rules) (omega arith)))
    (product w128 y.num (pos x.den) (search rules) (search rules) (c.from-3.ensures ∙ to_z-of_z w64 y.num (search rules)) c.from-4.ensures
    (product_fits y.num x.den (search rules) (omega arith)))
