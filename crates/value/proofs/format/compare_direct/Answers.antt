-- `value::format::compare_direct` meets its contract.
-- Assumes nothing.
use mathlib.Core.Path.{◌≡◌, sym, ap, ap₂, ◌∙◌}
use mathlib.Core.Bool.{Bool}
use native.Mathlib.Omega.{arith}
use borrow.Author.Rules.{rules, to_z-of_z_to}
use lib.IntN.{ℤ, pos}
use lib.Signed.{lt_z}
use mir.Syntax.{w16}
use mir.Val.{to_z, of_z}
use Rattle.std.specs.Ordering.{ordering_reverse}
use Rattle.linear11.specs.Linear11.{order_of}
use Rattle.value.specs.Format.{signed_word}
use Rattle.value.proofs.Shared.{direct-rising, direct-falling}
use Rattle.value.proofs.Signed.{cast_word, reversed}
use Rattle.value.proofs.format.compare_direct.Goals as goal
use Rattle.value.proofs.format.compare_direct.Goals.{After-cast_signed-3}

-- the two words' order, and the sign of m
order : (c : After-cast_signed-3) → c.cmp-order.result ≡ order_of (signed_word c.args.a) (signed_word c.args.b)
unfolding order_of
order c =
    c.cmp-order.ensures
    ∙ ap₂ order_of (to_z-of_z_to w16 _ _ (search rules) (c.cast_signed.ensures ∙ cast_word c.args.a (omega arith)))
    (to_z-of_z_to w16 _ _ (search rules) (c.cast_signed-2.ensures ∙ cast_word c.args.b (omega arith)))

sign : {b : Bool} (c : After-cast_signed-3) → lt_z (to_z w16 (of_z w16 c.cast_signed-3.result)) (pos 0) ≡ b → lt_z (signed_word c.args.m) (pos 0) ≡ b
sign c e =
    ap (λ (z : ℤ). lt_z z (pos 0)) (sym (to_z-of_z_to w16 _ _ (search rules) (c.cast_signed-3.ensures ∙ cast_word c.args.m (omega arith)))) ∙ e

pub returns-then-cast_signed-lt0 : goal.returns-then-cast_signed-lt0
returns-then-cast_signed-lt0 c =
    let a = c.args in
    let before = (goal.at.returns-then-cast_signed-lt0 c).After-cast_signed-3 in
    c.reverse.ensures ∙ ap ordering_reverse (order before) ∙ reversed (signed_word a.a) (signed_word a.b)
    ∙ direct-falling a.m a.a a.b (omega arith) (omega arith) (omega arith) c.if-m-eq0.false (sign before c.if-cast_signed-lt0.true)

pub returns : goal.returns
returns c =
    let a = c.args in
    let before = (goal.at.returns c).After-cast_signed-3 in
    order before
    ∙ direct-rising a.m a.a a.b (omega arith) (omega arith) (omega arith) c.if-m-eq0.false (sign before c.if-cast_signed-lt0.false)
