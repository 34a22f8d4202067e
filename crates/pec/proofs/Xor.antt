-- The laws of exclusive-or that lib.Bits lacks.
-- Assumes nothing.
use mathlib.Core.Path.{◌≡◌, sym, ap, ◌∙◌}
use Prim.Native.Nat.{ℕ}
use lib.Bits.{bit_xor, xor_assoc, xor_comm, xor_self}

-- exclusive-or with one operand undoes itself, so it is injective
pub xor_undone : (a z : ℕ) → bit_xor a (bit_xor a z) ≡ z
xor_undone a z = sym (xor_assoc a a z) ∙ ap (λ (w : ℕ). bit_xor w z) (xor_self a)

pub xor_cancel : (a x y : ℕ) → bit_xor a x ≡ bit_xor a y → x ≡ y
xor_cancel a x y e = sym (xor_undone a x) ∙ ap (bit_xor a) e ∙ xor_undone a y

pub xor_swap : (a b c : ℕ) → bit_xor (bit_xor a b) c ≡ bit_xor (bit_xor a c) b
xor_swap a b c = xor_assoc a b c ∙ ap (bit_xor a) (xor_comm b c) ∙ sym (xor_assoc a c b)
