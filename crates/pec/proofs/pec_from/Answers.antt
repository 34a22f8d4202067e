-- `pec::pec_from` meets its contract: what is left of the bytes, from the register so far, gives the check of the whole.
-- Assumes nothing.
use mathlib.Core.Path.{◌≡◌}
use mathlib.Core.List.{List}
use native.Mathlib.Numerals.{add-one}
use native.Mathlib.Omega.{arith}
use lib.Seq.{drop-cons}
use lib.ListN.{length, drop, get_or, drop_of_length-le}
use Prim.Native.Nat.{ℕ, ◌<◌, ◌+◌}
use Rattle.pec.specs.Pec.{pec_from, pec_byte}
use Rattle.pec.proofs.pec_from.Goals as goal

one_more : (s : List ℕ) (i crc : ℕ) → i < length s → pec_from (pec_byte crc (get_or s i 0)) (drop (i + 1) s) ≡ pec_from crc (drop i s)
unfolding pec_from
one_more s i crc h = rw (add-one, drop-cons s i 0)

pub loop-b-preserved : goal.loop-b-preserved
loop-b-preserved c = cc (one_more c.args.s.now c.loop-b.b-index c.loop-b.r (omega arith))

pub returns : goal.returns
unfolding pec_from
returns c = rw (drop_of_length-le c.args.s.now {i = c.loop-b.b-index} (omega arith)) at c.loop-b.invariant
