-- `value::ratio::Ratio::linear` meets its contract: at each sign of N, one of the two powers is 1.
-- Assumes nothing.
use mathlib.Core.Path.{◌≡◌, sym, ap, ◌∙◌}
use Prim.Native.Nat.{ℕ, ◌*◌, ◌%◌, ◌^◌, ◌<◌, ◌≤◌}
use native.Mathlib.Nat.{mul-le-mul}
use native.Mathlib.Omega.{arith}
use borrow.Author.Rules.{rules}
use lib.IntN.{pos, nat_abs, ◌*ℤ◌}
use mir.Syntax.{w64}
use mir.Val.{to_z, of_z, SFits}
use mir.ValLaws.{to_z-of_z}
use Rattle.linear11.specs.Linear11.{mantissa, exponent}
use Rattle.linear11.proofs.Range.{mantissa-size}
use Rattle.signs.proofs.Machine.{fits_size, abs_times}
use Rattle.value.specs.Value.{linear_num, linear_den}
use Rattle.value.proofs.Powers.{down, up, times_one, exponent-size, shifted, two-size}
use Rattle.value.proofs.Signed.{product}
use Rattle.value.proofs.ratio.Ratio.linear.Goals as goal
use Rattle.value.proofs.ratio.Ratio.linear.Goals.{After-unsigned_abs}

y_is : (c : After-unsigned_abs) → to_z w64 (of_z w64 c.mantissa-y.result) ≡ mantissa c.args.word
y_is c = to_z-of_z w64 c.mantissa-y.result (search rules) ∙ c.mantissa-y.ensures

n_is : (c : After-unsigned_abs) → to_z w64 (of_z w64 c.exponent-n.result) ≡ exponent c.args.word
n_is c = to_z-of_z w64 c.exponent-n.result (search rules) ∙ c.exponent-n.ensures

size_is : (c : After-unsigned_abs) → c.unsigned_abs.result ≡ nat_abs (exponent c.args.word)
size_is c = c.unsigned_abs.ensures.value ∙ ap nat_abs (n_is c)

small : (c : After-unsigned_abs) → c.unsigned_abs.result ≤ 16
small c = rw (size_is c) (exponent-size c.args.word c.ranges.word.fits)

power : (c : After-unsigned_abs) → 1 * 2 ^ c.unsigned_abs.result % 2 ^ 32 ≡ 2 ^ nat_abs (exponent c.args.word)
power c = shifted c.unsigned_abs.result (small c) ∙ ap (λ (k : ℕ). 2 ^ k) (size_is c)

fits : (w : ℕ) → w < 65536 → SFits w64 (mantissa w *ℤ pos (2 ^ nat_abs (exponent w)))
fits w h =
    let k = nat_abs (exponent w) in
    let bound : nat_abs (mantissa w) * 2 ^ k ≤ 1024 * 65536 = mul-le-mul (mantissa-size w) (two-size k (exponent-size w h)) in
    fits_size _ (rw (abs_times (mantissa w) (pos (2 ^ k))) (omega arith))

pub overflow_cast-power : goal.overflow_cast-power
overflow_cast-power c = let s = small (goal.at.overflow_cast-power c).After-unsigned_abs in record { fits = omega arith }

pub overflow_shl-power : goal.overflow_shl-power
overflow_shl-power c = omega (arith, small (goal.at.overflow_shl-power c).After-unsigned_abs)

pub returns-then-n-lt0 : goal.returns-then-n-lt0
unfolding linear_num linear_den
returns-then-n-lt0 c =
    let w = c.args.word in
    let before = (goal.at.returns-then-n-lt0 c).After-unsigned_abs in
    let d = down (exponent w) (rw (n_is before) at c.if-n-lt0.true) in (
      y_is before ∙ sym (times_one (mantissa w)) ∙ ap (λ (k : ℕ). mantissa w *ℤ pos (2 ^ k)) d.1,
      c.from.ensures ∙ power before ∙ ap (λ (k : ℕ). 2 ^ k) d.0,
    )

pub overflow_mul-result : goal.overflow_mul-result
overflow_mul-result c =
    let before = (goal.at.overflow_mul-result c).After-unsigned_abs in
    rw (y_is before, to_z-of_z w64 c.from-2.result (search rules), c.from-2.ensures, power before) (fits c.args.word c.ranges.word.fits)

pub returns : goal.returns
unfolding linear_num linear_den
returns c =
    let w = c.args.word in
    let before = (goal.at.returns c).After-unsigned_abs in
    let d = up (exponent w) (rw (n_is before) at c.if-n-lt0.false) in (
      product w64 (mantissa w) (pos (2 ^ nat_abs (exponent w))) (search rules) (search rules) c.mantissa-y.ensures (c.from-2.ensures ∙ ap pos (power before))
          (fits w c.ranges.word.fits)
          ∙ ap (λ (k : ℕ). mantissa w *ℤ pos (2 ^ k)) d.1,
      ap (λ (k : ℕ). 2 ^ k) d.0,
    )
