-- Laws of the packet check for its callers: it stays a byte, it is carried on over a message in two parts, and a message that ends
-- in its own check has the check 0.
-- Assumes nothing.
use mathlib.Core.Path.{◌≡◌, refl, ◌∙◌}
use Prim.Native.Nat.{ℕ, ◌*◌, ◌%◌, ◌<◌}
use native.Mathlib.Omega.{arith}
use mathlib.Core.List.{List, [], ◌∷◌, ◌++◌}
use lib.Dec.{ltb}
use lib.Bits.{xor_lt, xor_self}
use borrow.Author.Tests.{ltb-true}
use Rattle.laws.proofs.Branches.{either}
use Rattle.pec.specs.Pec.{pec_bit, pec_byte, pec_from}

pub bit-lt : (x : ℕ) → pec_bit x < 256
unfolding pec_bit
bit-lt x =
    either (ltb x 128)
    (λ e. let h : x < 128 = ltb-true x 128 e in rw e (omega arith))
    (λ e. rw e (xor_lt 8 (x * 2 % 256) 7 (omega arith) (omega arith)))

pub pec-lt : (c : ℕ) (s : List ℕ) → c < 256 → pec_from c s < 256
unfolding pec_from pec_byte
pec-lt c [] h = h
pec-lt c (b ∷ s) h = pec-lt (pec_byte c b) s (bit-lt _)

pub pec-append : (c : ℕ) (a b : List ℕ) → pec_from c (a ++ b) ≡ pec_from (pec_from c a) b
unfolding pec_from
pec-append c [] b = refl
pec-append c (x ∷ a) b = pec-append (pec_byte c x) a b

-- a byte that equals the register leaves 0
own_byte : (c : ℕ) → pec_byte c c ≡ 0
unfolding pec_byte pec_bit
own_byte c = rw (xor_self c)

pub own_check : (c : ℕ) (s : List ℕ) → pec_from c (s ++ (pec_from c s ∷ [])) ≡ 0
unfolding pec_from
own_check c s = pec-append c s (pec_from c s ∷ []) ∙ own_byte (pec_from c s)
