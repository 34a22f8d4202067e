-- `value::ratio::Ratio::direct` meets its contract: at each sign of R, one of the two powers is 1.
-- Assumes nothing.
use mathlib.Core.Path.{◌≡◌, ap, ap₂, ◌∙◌}
use Prim.Native.Nat.{ℕ, ◌*◌, ◌^◌, ◌≤◌}
use native.Mathlib.Omega.{arith}
use borrow.Author.Rules.{rules}
use lib.IntN.{ℤ, pos, nat_abs, ◌-ℤ◌, ◌*ℤ◌}
use mir.Syntax.{w8, w16, w64}
use mir.Val.{to_z, of_z, SFits}
use mir.ValLaws.{to_z-of_z}
use Rattle.value.specs.Value.{above, under, signed_by, direct_top, direct_num, direct_den}
use Rattle.value.proofs.Powers.{down, up, ten-size}
use Rattle.value.proofs.ratio.Ratio.direct.Goals as goal
use Rattle.value.proofs.ratio.Ratio.direct.Goals.{After-pow-power}

power : (c : After-pow-power) → c.pow-power.result ≡ 10 ^ nat_abs c.args.r
power c =
    c.pow-power.ensures
    ∙ ap (λ (k : ℕ). 10 ^ k) (c.from.ensures ∙ c.unsigned_abs.ensures.value ∙ ap nat_abs (to_z-of_z w8 c.args.r c.ranges.r))

power_small : (c : After-pow-power) → c.pow-power.result ≤ 1000000
power_small c = rw (power c) (ten-size (nat_abs c.args.r) c.requires)

-- the numbers as they are passed on
factor : (z : ℤ) (p q : ℕ) → SFits w16 z → p ≡ q → to_z w16 (of_z w16 z) *ℤ pos p ≡ z *ℤ pos q
factor z p q f e = ap₂ (λ (x : ℤ) (n : ℕ). x *ℤ pos n) (to_z-of_z w16 z f) e

pub top-requires : goal.top-requires
top-requires c = (power_small (goal.at.top-requires c).After-pow-power, omega arith)

pub returns-then-r-lt0 : goal.returns-then-r-lt0
unfolding direct_num direct_top direct_den
returns-then-r-lt0 c =
    let a = c.args in
    let d = down a.r (rw (to_z-of_z w8 a.r c.ranges.r) at c.if-r-lt0.true) in
    let ten = power (goal.at.returns-then-r-lt0 c).After-pow-power ∙ ap (λ (k : ℕ). 10 ^ k) d.0 in
    let one : 1 ≡ 10 ^ above a.r = ap (λ (k : ℕ). 10 ^ k) d.1 in
    let m_is = to_z-of_z w16 a.m c.ranges.m in (
      c.over.ensures.0
          ∙ ap₂ signed_by m_is (to_z-of_z w64 c.top.result (search rules) ∙ c.top.ensures.value ∙ ap₂ ◌-ℤ◌ (factor a.y _ _ c.ranges.y ten) (factor a.b _ _ c.ranges.b one)),
      c.over.ensures.1 ∙ ap₂ (λ (z : ℤ) (q : ℕ). nat_abs z * q) m_is one,
    )

pub top-requires-2 : goal.top-requires-2
top-requires-2 c = (omega arith, power_small (goal.at.top-requires-2 c).After-pow-power)

pub returns : goal.returns
unfolding direct_num direct_top direct_den
returns c =
    let a = c.args in
    let d = up a.r (rw (to_z-of_z w8 a.r c.ranges.r) at c.if-r-lt0.false) in
    let ten = power (goal.at.returns c).After-pow-power ∙ ap (λ (k : ℕ). 10 ^ k) d.1 in
    let one : 1 ≡ 10 ^ under a.r = ap (λ (k : ℕ). 10 ^ k) d.0 in
    let m_is = to_z-of_z w16 a.m c.ranges.m in (
      c.over-2.ensures.0
          ∙ ap₂ signed_by m_is (to_z-of_z w64 c.top-2.result (search rules) ∙ c.top-2.ensures.value ∙ ap₂ ◌-ℤ◌ (factor a.y _ _ c.ranges.y one) (factor a.b _ _ c.ranges.b ten)),
      c.over-2.ensures.1 ∙ ap₂ (λ (z : ℤ) (q : ℕ). nat_abs z * q) m_is ten,
    )
