-- The table's rule, shown once over all entries, and what a look-up is for its caller.
-- Assumes nothing.
use mathlib.Core.Path.{◌≡◌, ap, ◌∙◌}
use Prim.Native.Nat.{ℕ, ◌<◌}
use lib.Bits.{bit_xor, xor_lt, xor_comm, xor_zero_l}
use lib.Dec.{lit<}
use lib.ListN.{get_or}
use Rattle.laws.proofs.Every.{agree}
use Rattle.pec.specs.Pec.{pec_bit, pec_byte}
use Rattle.pec.specs.Table.{entries, turned}
use Rattle.pec.proofs.Xor.{xor_undone}

pub rule : (k : ℕ) → k < 256 → get_or entries k 0 ≡ pec_byte 0x80 k
unfolding pec_byte pec_bit
rule = agree (λ k. get_or entries k 0) (pec_byte 0x80) 256 tt

-- register and byte enter as their exclusive-or alone
only-xor : (r x c b : ℕ) → bit_xor r x ≡ bit_xor c b → pec_byte r x ≡ pec_byte c b
unfolding pec_byte
only-xor r x c b e = rw e

pub looked_up : (c b : ℕ) → c < 256 → b < 256 → get_or entries (bit_xor (bit_xor c b) 0x80) 0 ≡ pec_byte c b
looked_up c b hc hb =
    rule (bit_xor z 0x80) (xor_lt 8 z 0x80 (xor_lt 8 c b hc hb) (lit< tt))
    ∙ only-xor 0x80 (bit_xor z 0x80) c b (ap (bit_xor 0x80) (xor_comm z 0x80) ∙ xor_undone 0x80 z)
  where
    z : ℕ
    z = bit_xor c b

pub turned_rule : (k : ℕ) → k < 256 → get_or turned k 0 ≡ pec_byte 0 k
unfolding pec_byte pec_bit
turned_rule = agree (λ k. get_or turned k 0) (pec_byte 0) 256 tt

pub turned_up : (c b : ℕ) → c < 256 → b < 256 → get_or turned (bit_xor c b) 0 ≡ pec_byte c b
turned_up c b hc hb = turned_rule (bit_xor c b) (xor_lt 8 c b hc hb) ∙ only-xor 0 (bit_xor c b) c b (xor_zero_l (bit_xor c b))
