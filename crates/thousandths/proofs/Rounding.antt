-- The rounded quotient: how the code works it out, and that it gives the nearest word of a row.
-- Assumes nothing.
use mathlib.Core.Path.{◌≡◌, refl, sym, ap, ◌∙◌}
use mathlib.Core.Logic.{◌⊎◌, inl, inr}
use Prim.Native.Nat.{ℕ, suc, ◌+◌, ◌*◌, ◌-◌, ◌/◌, ◌^◌, ◌<◌, ◌≤◌}
use native.Mathlib.Nat.{
  mul_assoc,
  mul_comm,
  mul-suc,
  mul-le-mul_left,
  pow-suc,
  div-add-mod,
  mod-lt,
  div-div-eq-div-mul,
  div-eq_of_lt,
  min-eq_left,
  min-eq_right,
  min-le_right,
}
use native.Mathlib.Numerals.{add-one}
use native.Mathlib.Omega.{arith}
use lib.Dec.{ltb}
use lib.Pow.{pow_mono}
use borrow.Author.Tests.{ltb-true, ltb-false}
use Rattle.laws.proofs.Branches.{either}
use Rattle.thousandths.specs.Conversion.{unit, start, half_down, rounded, distance}

pub unit-pos : (e : ℕ) → 0 < unit e
unfolding unit
unit-pos e = omega (arith, pow_mono {i = 0} {j = e} (omega arith))

-- ---- how the code works it out

-- to divide by 1000 and by a power of two
pub quotient : (e x : ℕ) → x / 1000 / 2 ^ (e + 1) ≡ x / (unit e * 2)
unfolding unit
quotient e x = div-div-eq-div-mul x 1000 (2 ^ (e + 1)) ∙ ap (λ (n : ℕ). x / n) doubled
  where
    doubled : 1000 * 2 ^ (e + 1) ≡ 1000 * 2 ^ e * 2
    doubled = rw (add-one, pow-suc) (sym (mul_assoc 1000 (2 ^ e) 2))

module _ (t e : ℕ) where
  -- at the row's start or below it
  pub rounded-under : t ≤ start e → 0 ≡ rounded t e
  unfolding rounded
  rounded-under h =
      let none : t - start e ≡ 0 = omega arith in
      rw (none, div-eq_of_lt {n = 0 * 2 + unit e - 1} {m = unit e * 2} (omega (arith, unit-pos e))) refl

  module _ (y : ℕ) (same : y ≡ half_down (unit e) (t - start e)) where
    pub rounded-within : y < 2048 → y ≡ rounded t e
    unfolding rounded
    rounded-within h = rw (sym same) (sym (min-eq_left (omega arith)))

    pub rounded-over : 2048 ≤ y → 2047 ≡ rounded t e
    unfolding rounded
    rounded-over h = rw (sym same) (sym (min-eq_right (omega arith)))

-- ---- the nearest word of a row

choose : (y z a c : ℕ) → (z < y → a < c) → (y ≤ z → a ≤ c) → (a < c) ⊎ ((a ≡ c) × (y ≤ z))
choose y z a c f g =
    either (ltb z y)
    (λ e. inl (f (ltb-true z y e)))
    (λ e. let h = g (ltb-false z y e) in either (ltb a c)
    (λ k. inl (ltb-true a c k))
    (λ k. inr (omega (arith, ltb-false a c k), ltb-false z y e)))

-- one step more is u more
less-times : (u z y : ℕ) → z < y → u * z + u ≤ u * y
less-times u z y h = omega (arith, mul-le-mul_left {m = suc z} {n = y} u h, mul-suc u z)

twice : (a b : ℕ) → a * 2 * b ≡ a * b * 2
twice a b = mul_assoc a 2 b ∙ ap (λ (n : ℕ). a * n) (mul_comm 2 b) ∙ sym (mul_assoc a b 2)

-- y is nearer to t than z, or as near and not greater, where a row begins at b and goes up by u
abbrev Ahead : ℕ → ℕ → ℕ → ℕ → ℕ → Type 0
Ahead u b t y z = (distance t (u * y + b) < distance t (u * z + b)) ⊎ ((distance t (u * y + b) ≡ distance t (u * z + b)) × (y ≤ z))

module _ (u b t : ℕ) (0<u : 0 < u) where
  under : t ≤ b → (z : ℕ) → Ahead u b t 0 z
  under h z = choose 0 z (distance t (u * 0 + b)) (distance t (u * z + b)) (λ k. omega arith) (λ k. omega arith)

  module _ (h : b < t) where
    low : u * half_down u (t - b) * 2 ≤ (t - b) * 2 + u - 1
    low = omega (arith, div-add-mod ((t - b) * 2 + u - 1) (u * 2), twice u (half_down u (t - b)))

    high : (t - b) * 2 + u - 1 < u * half_down u (t - b) * 2 + u * 2
    high =
        let x = (t - b) * 2 + u - 1 in
        omega (arith, div-add-mod x (u * 2), twice u (half_down u (t - b)), mod-lt x {m = u * 2} (omega arith))

    within : (z : ℕ) → Ahead u b t (half_down u (t - b)) z
    within z =
        let y = half_down u (t - b) in
        choose y z (distance t (u * y + b)) (distance t (u * z + b))
        (λ k. omega (arith, low, less-times u z y k))
        (λ k. either (ltb y z)
        (λ e. omega (arith, high, less-times u y z (ltb-true y z e)))
        (λ e. let same : z ≡ y = omega (arith, ltb-false y z e) in rw same (omega arith)))

    over : (y : ℕ) → y ≤ half_down u (t - b) → (z : ℕ) → z ≤ y → Ahead u b t y z
    over y l z m =
        choose y z (distance t (u * y + b)) (distance t (u * z + b))
        (λ k. omega (arith, low, less-times u z y k, mul-le-mul_left {m = y} {n = half_down u (t - b)} u l))
        (λ k. let same : z ≡ y = omega arith in rw same (omega arith))

-- no word of row e is nearer to t, and none as near is smaller
unfoldable pub FirstOfRow : ℕ → ℕ → ℕ → Type 0
FirstOfRow t e y = (z : ℕ) → z < 2048 → Ahead (unit e) (start e) t y z

pub rounded-small : (t e : ℕ) → rounded t e < 2048
unfolding rounded
rounded-small t e = omega (arith, min-le_right (half_down (unit e) (t - start e)) 2047)

pub rounded-first : (t e : ℕ) → FirstOfRow t e (rounded t e)
unfolding FirstOfRow
rounded-first t e =
    let u = unit e in
    let b = start e in
    let q = half_down u (t - b) in
    either (ltb b t)
    (λ k. let h = ltb-true b t k in either (ltb q 2048)
    (λ m. rw (sym (rounded-within t e q refl (ltb-true q 2048 m))) (λ z l. within u b t (unit-pos e) h z))
    (λ m. let n = ltb-false q 2048 m in
    rw (sym (rounded-over t e q refl n)) (λ z l. over u b t (unit-pos e) h 2047 (omega arith) z (omega arith))))
    (λ k. let h = ltb-false b t k in rw (sym (rounded-under t e h)) (λ z l. under u b t (unit-pos e) h z))
