-- `pec::pec_from` meets its contract: what is left of the bytes, from the register so far, gives the check of the whole.
-- Assumes nothing.
use mathlib.Core.Path.{◌≡◌}
use lib.ListN.{drop}
use Rattle.pec.specs.Pec.{pec_from}
use Rattle.pec.proofs.pec_from.Given as goal

abbrev pub invariant-loop-b : goal.invariant-loop-b
invariant-loop-b l = pec_from l.r (drop l.b-index l.s) ≡ pec_from l.crc l.s
