-- `pec::pec_byte` meets its contract: the bits that are left to do give the whole.
-- Assumes nothing.
use Prim.Native.Nat.{ℕ, suc, ◌+◌, ◌-◌, ◌<◌}
use mathlib.Core.Path.{◌≡◌, refl}
use native.Mathlib.Omega.{arith}
use Rattle.pec.specs.Pec.{pec_bit, pec_byte}
use Rattle.pec.proofs.pec_byte.Invariants.{steps}
use Rattle.pec.proofs.pec_byte.Goals as goal

one_more : (k x : ℕ) → k < 8 → steps (8 - (k + 1)) (pec_bit x) ≡ steps (8 - k) x
unfolding steps
one_more k x h = let e : 8 - k ≡ suc (8 - (k + 1)) = omega arith in rw e

pub loop-init : goal.loop-init
unfolding pec_byte steps
loop-init c = refl

pub loop-preserved : goal.loop-preserved
loop-preserved c = cc (one_more c.loop.counter c.loop.x c.loop-test.true)

pub returns : goal.returns
unfolding steps
returns c = let e : 8 - c.loop.counter ≡ 0 = omega arith in rw e at c.loop.invariant
