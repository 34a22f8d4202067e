-- `value::value_of` meets its contract.
-- Assumes nothing.
use mathlib.Core.Path.{◌≡◌, ap₂, ◌∙◌}
use Prim.Native.Nat.{ℕ}
use lib.IntN.{ℤ}
use Rattle.value.specs.declared.ratio.Ratio.{Ratio}
use native.Mathlib.Omega.{arith}
use borrow.Author.Rules.{rules, to_z-of_z_to}
use mir.Syntax.{w8, w16}
use mir.Val.{to_z, of_z}
use Rattle.value.specs.Format.{signed_byte, value_of}
use Rattle.value.proofs.Signed.{cast_word, cast_byte}
use Rattle.value.proofs.Valid.{valid_r}
use Rattle.value.proofs.value_of.Goals as goal
use Rattle.value.proofs.value_of.Goals.{After-cast_signed-then-f-3}

r_is : (c : After-cast_signed-then-f-3) → to_z w8 (of_z w8 c.cast_signed-then-f-3.result) ≡ signed_byte c.args.f.r
r_is c = to_z-of_z_to w8 _ _ (search rules) (c.cast_signed-then-f-3.ensures ∙ cast_byte c.args.f.r (omega arith))

pub direct-requires : goal.direct-requires
direct-requires c = rw (r_is (goal.at.direct-requires c).After-cast_signed-then-f-3) (valid_r c.args.f c.if-f.true c.requires (omega arith))

fraction : (x : Ratio) (num : ℤ) (den : ℕ) → x.num ≡ num → x.den ≡ den → x ≡ record { num = num; den = den }
fraction x num den e d = ap₂ (λ (n : ℤ) (m : ℕ). record { num = n; den = m }) e d

pub returns-then-f : goal.returns-then-f
unfolding value_of
returns-then-f c =
    let f = c.args.f in
    let y = to_z-of_z_to w16 _ _ (search rules) (c.cast_signed.ensures ∙ cast_word c.args.w (omega arith)) in
    let m = to_z-of_z_to w16 _ _ (search rules) (c.cast_signed-then-f.ensures ∙ cast_word f.m (omega arith)) in
    let b = to_z-of_z_to w16 _ _ (search rules) (c.cast_signed-then-f-2.ensures ∙ cast_word f.b (omega arith)) in
    let r = r_is (goal.at.returns-then-f c).After-cast_signed-then-f-3 in
    rw c.if-f.true (fraction c.direct.result _ _ (c.direct.ensures.0 ∙ rw (y, m, b, r)) (c.direct.ensures.1 ∙ rw (m, r)))

pub returns : goal.returns
unfolding value_of
returns c = rw c.if-f.false (fraction c.linear.result _ _ c.linear.ensures.0 c.linear.ensures.1)
