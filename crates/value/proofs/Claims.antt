-- The claims on values: Linear11 words in the order of data sheet 5.5, DIRECT values by PMBus's formula, fractions by cross products, and examples.
-- Assumes nothing.
use mathlib.Core.Path.{◌≡◌, refl, sym, ap, ap₂, ◌∙◌}
use Prim.Native.Nat.{ℕ, zero, suc, ◌*◌, ◌^◌, ◌<◌}
use native.Mathlib.Nat.{mul_comm, mul-pos, one-mul, mul-one}
use lib.IntN.{ℤ, pos, neg_ℤ, nat_abs, ◌+ℤ◌, ◌-ℤ◌, ◌*ℤ◌, +ℤ_assoc, +ℤ_comm, neg_ℤ-neg_ℤ, suc_ℤ-*ℤ, *ℤ_comm, *ℤ-zero, -ℤ-+ℤ_cancel}
use lib.Signed.{lt_z}
use Rattle.linear11.specs.Linear11.{signed_of, mantissa, exponent, order_of}
use Rattle.linear11.proofs.Picked.{said_below, said_equal, said_above, test, less, one_way, not_itself, neither}
use Rattle.value.specs.Value.{ratio_order, above, under, linear_num, linear_den, direct_top, direct_num, direct_den, signed_by}
use Rattle.value.specs.Format.{signed_word, signed_byte, value_of, value_order, format_valid, comparison}
use Rattle.value.specs.Claims.{LinearAgrees, Encodes, DirectMeans, OrderExact, Examples, Claims}
use Rattle.value.proofs.Laws.{linear_agrees, direct_means, times_times, turned}
use Rattle.value.proofs.Shared.{some_size, ten_pos}

-- ---- Linear11 words

agrees : LinearAgrees
unfolding LinearAgrees value_order value_of ratio_order
agrees f g a b e d ha hb = rw (e, d) (linear_agrees a b ha hb)

-- ---- a DIRECT value in the sender's formula

-- sums of products by a number
swapped : (a b c d : ℤ) → (a +ℤ b) +ℤ (c +ℤ d) ≡ (a +ℤ c) +ℤ (b +ℤ d)
swapped a b c d =
    +ℤ_assoc a b (c +ℤ d) ∙ ap (λ (z : ℤ). a +ℤ z) (sym (+ℤ_assoc b c d) ∙ ap (λ (z : ℤ). z +ℤ d) (+ℤ_comm b c) ∙ +ℤ_assoc c b d)
    ∙ sym (+ℤ_assoc a c (b +ℤ d))

once_more : (x : ℤ) (k : ℕ) → x *ℤ pos (suc k) ≡ x *ℤ pos k +ℤ x
once_more x k = *ℤ_comm x (pos (suc k)) ∙ suc_ℤ-*ℤ (pos k) x ∙ ap (λ (z : ℤ). z +ℤ x) (*ℤ_comm (pos k) x)

sum-times : (x y : ℤ) (k : ℕ) → (x +ℤ y) *ℤ pos k ≡ x *ℤ pos k +ℤ y *ℤ pos k
sum-times x y zero = *ℤ-zero (x +ℤ y) ∙ sym (ap₂ ◌+ℤ◌ (*ℤ-zero x) (*ℤ-zero y))
sum-times x y (suc k) =
    once_more (x +ℤ y) k ∙ ap (λ (z : ℤ). z +ℤ (x +ℤ y)) (sum-times x y k) ∙ swapped (x *ℤ pos k) (y *ℤ pos k) x y
    ∙ sym (ap₂ ◌+ℤ◌ (once_more x k) (once_more y k))

opposite_times : (t : ℤ) (k : ℕ) → neg_ℤ t *ℤ pos k ≡ neg_ℤ (t *ℤ pos k)
opposite_times t k = sym (neg_ℤ-neg_ℤ (neg_ℤ t *ℤ pos k)) ∙ ap neg_ℤ (turned t k)

-- m X + b, over the common denominator
module _ (y m b r : ℤ) where
  top_times : direct_top y b r *ℤ pos (nat_abs m) ≡ y *ℤ pos (10 ^ under r * nat_abs m) -ℤ b *ℤ pos (nat_abs m * 10 ^ above r)
  unfolding direct_top
  top_times =
      sum-times (y *ℤ pos (10 ^ under r)) (neg_ℤ (b *ℤ pos (10 ^ above r))) (nat_abs m)
      ∙ ap₂ ◌+ℤ◌ (times_times y (10 ^ under r) (nat_abs m))
      (opposite_times (b *ℤ pos (10 ^ above r)) (nat_abs m)
      ∙ ap neg_ℤ (times_times b (10 ^ above r) (nat_abs m) ∙ ap (λ (n : ℕ). b *ℤ pos n) (mul_comm (10 ^ above r) (nat_abs m))))

  sent : m *ℤ direct_num y m b r +ℤ b *ℤ pos (nat_abs m * 10 ^ above r) ≡ y *ℤ pos (10 ^ under r * nat_abs m)
  sent =
      ap (λ (z : ℤ). z +ℤ b *ℤ pos (nat_abs m * 10 ^ above r)) (*ℤ_comm m (direct_num y m b r) ∙ direct_means y m b r ∙ top_times)
      ∙ -ℤ-+ℤ_cancel (y *ℤ pos (10 ^ under r * nat_abs m)) (b *ℤ pos (nat_abs m * 10 ^ above r))

up-powers : (r : ℤ) (k : ℕ) → r ≡ pos k → (under r ≡ 0) × (above r ≡ k)
unfolding under above
up-powers r k e = rw e (refl, refl)

down-powers : (r : ℤ) (k : ℕ) → r ≡ neg_ℤ (pos k) → (under r ≡ k) × (above r ≡ 0)
unfolding under above
down-powers r zero e = rw e (refl, refl)
down-powers r (suc k) e = rw e (refl, refl)

module _ (y m b r : ℤ) (some : 0 < nat_abs m) where
  encodes : Encodes (record { num = direct_num y m b r; den = direct_den m r }) y m b r
  unfolding direct_den
  encodes = record {
    some = mul-pos {m = nat_abs m} {n = 10 ^ above r} some (ten_pos (above r));
    raised = λ k e. let p = up-powers r k e in
        ap (λ (z : ℤ). z *ℤ pos (10 ^ k)) (sent y m b r) ∙ times_times y (10 ^ under r * nat_abs m) (10 ^ k)
        ∙ rw (p.0, p.1, one-mul (nat_abs m));
    lowered = λ k e. let p = down-powers r k e in
        sent y m b r ∙ rw (p.0, p.1, mul-one (nat_abs m)) (sym (times_times y (10 ^ k) (nat_abs m)));
  }

means : DirectMeans
unfolding DirectMeans value_of
means f w d h n = rw d (encodes (signed_word w) (signed_word f.m) (signed_word f.b) (signed_byte f.r) (some_size f.m h n))

-- ---- the order of fractions

exact : OrderExact
unfolding OrderExact ratio_order order_of
exact x y = record {
  below = (λ e. less p q (said_below (lt_z p q) (lt_z q p) e), λ h. rw (test p q h));
  equal = (
    λ e. let s = said_equal (lt_z p q) (lt_z q p) e in neither p q s.0 s.1,
    λ h. rw (h, not_itself q),
  );
  above = (λ e. less q p (said_above (lt_z p q) (lt_z q p) e), λ h. let e = test q p h in rw (one_way q p e, e));
}
  where
    p : ℤ
    p = x.num *ℤ pos y.den

    q : ℤ
    q = y.num *ℤ pos x.den

examples : Examples
unfolding comparison format_valid value_order value_of ratio_order order_of linear_num linear_den direct_num direct_top direct_den signed_by above under signed_of mantissa exponent
examples = record {
  two_below = refl;
  six_and_half = refl;
  turned = refl;
  across = refl;
  tenth_above = refl;
  tenth_below = refl;
  no_slope = refl;
  seven = refl;
  seven_below = refl;
}

pub claims : Claims
claims = record { linear_agrees = agrees; direct_means = means; order_exact = exact; examples = examples }
