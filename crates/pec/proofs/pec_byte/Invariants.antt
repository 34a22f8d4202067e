-- `pec::pec_byte` meets its contract: the bits that are left to do give the whole.
-- Assumes nothing.
use Prim.Native.Nat.{ℕ, zero, suc, ◌-◌}
use mathlib.Core.Path.{◌≡◌}
use Rattle.pec.specs.Pec.{pec_bit, pec_byte}
use Rattle.pec.proofs.pec_byte.Given as goal

-- n bits more
unfoldable pub steps : ℕ → ℕ → ℕ
steps zero x = x
steps (suc n) x = steps n (pec_bit x)

abbrev pub invariant-loop : goal.invariant-loop
invariant-loop l = steps (8 - l.counter) l.x ≡ pec_byte l.crc l.b
