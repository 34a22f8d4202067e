-- `pec::pec_bit` meets its contract: the masked high bit is the definition's test.
-- Assumes nothing.
use mathlib.Core.Path.{◌≡◌}
use Prim.Native.Nat.{ℕ, ◌<◌, ◌≤◌}
use native.Mathlib.Omega.{arith}
use lib.Bits.{bit_and, and_high}
use lib.Pow.{shr_mod}
use borrow.Author.Tests.{le-ltb, lt-ltb}
use Rattle.pec.specs.Pec.{pec_bit}
use Rattle.pec.proofs.pec_bit.Goals as goal

top_set : (x : ℕ) → x < 256 → (bit_and x 128 ≡ 0 → ⊥) → 128 ≤ x
top_set x h f = omega (arith, and_high x 1 7, shr_mod 1 7 h)

top_clear : (x : ℕ) → x < 256 → bit_and x 128 ≡ 0 → x < 128
top_clear x h e = omega (arith, and_high x 1 7, shr_mod 1 7 h)

pub returns-then-x-ne0 : goal.returns-then-x-ne0
unfolding pec_bit
returns-then-x-ne0 c = simp (le-ltb _ _ (top_set c.args.x c.ranges.x.fits c.if-x-ne0.true))

pub returns-else-x-ne0 : goal.returns-else-x-ne0
unfolding pec_bit
returns-else-x-ne0 c =
    let h : c.args.x < 128 = top_clear c.args.x c.ranges.x.fits c.if-x-ne0.false in
    simp (lt-ltb _ _ h) (omega arith)
