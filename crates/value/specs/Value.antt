-- A measured value as a fraction, and the exact order of two such values.
-- Assumes nothing.
use Rattle.std.specs.Prelude.{cond, ℕ, suc, ◌*◌, ◌^◌, ℤ, pos, negsuc, neg_ℤ, nat_abs, ◌-ℤ◌, ◌*ℤ◌}
use Rattle.std.specs.Int.Signed.{lt_z}
use Rattle.linear11.specs.Linear11.{mantissa, exponent, order_of}
use Rattle.std.specs.declared.cmp.Ordering.{Ordering}
use Rattle.value.specs.declared.ratio.Ratio.{Ratio}

-- the order of two fractions with denominators above 0: of what is left when both are multiplied by both denominators
unfoldable pub ratio_order : Ratio → Ratio → Ordering
ratio_order x y = order_of (x.num *ℤ pos y.den) (y.num *ℤ pos x.den)

-- z where it is above 0, and -z where it is below; otherwise 0
unfoldable pub above : ℤ → ℕ
above (pos n) = n
above (negsuc n) = 0

unfoldable pub under : ℤ → ℕ
under (pos n) = 0
under (negsuc n) = suc n

-- Linear11: Y times 2 to the N
unfoldable pub linear_num : ℕ → ℤ
linear_num word = mantissa word *ℤ pos (2 ^ above (exponent word))

unfoldable pub linear_den : ℕ → ℕ
linear_den word = 2 ^ under (exponent word)

-- DIRECT: Y times 10 to the -R, less b, over m (PMBus Part II, 7.2.1). Multiplied by 10 to the R where R is above 0, so that no power stands below
-- the line twice, and with m's sign above the line.
unfoldable pub direct_top : ℤ → ℤ → ℤ → ℤ
direct_top y b r = y *ℤ pos (10 ^ under r) -ℤ b *ℤ pos (10 ^ above r)

unfoldable pub signed_by : ℤ → ℤ → ℤ
signed_by m n = cond (lt_z m (pos 0)) (neg_ℤ n) n

unfoldable pub direct_num : ℤ → ℤ → ℤ → ℤ → ℤ
direct_num y m b r = signed_by m (direct_top y b r)

unfoldable pub direct_den : ℤ → ℤ → ℕ
direct_den m r = nat_abs m * 10 ^ above r
