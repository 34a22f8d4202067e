-- The check worked off bit by bit: a byte's check is that of its eight bits in bus order.
-- Assumes nothing.
use mathlib.Core.Path.{◌≡◌, refl, sym, ap, ap₂, ◌∙◌, subst}
use mathlib.Core.Bool.{Bool, true, false, cond}
use Prim.Native.Nat.{ℕ, zero, suc, ◌*◌, ◌/◌, ◌%◌, ◌<◌, ◌≤◌}
use native.Mathlib.Nat.{add-zero, div-add-mod'}
use native.Mathlib.Omega.{arith}
use mathlib.Core.List.{List, [], ◌∷◌, ◌++◌}
use lib.Dec.{T, eqb, ltb, lit<}
use lib.Bits.{bit_xor, xor_shr, xor_mod, xor_lt, xor_block, xor_shifted, xor_zero_r, xor_assoc}
use borrow.Author.Tests.{lt-ltb, le-ltb, ltb-true, ltb-false}
use Rattle.laws.specs.Lists.{Bytes}
use Rattle.laws.proofs.Every.{each, agree}
use Rattle.pec.specs.Pec.{pec_bit, pec_byte, pec_from}
use Rattle.pec.specs.Burst.{bits8, bus_bits}
use Rattle.pec.proofs.Laws.{bit-lt}
use Rattle.pec.proofs.Xor.{xor_swap}

-- one bit of input flips the register's high bit, and the register is shifted
abbrev pub num : Bool → ℕ
num true = 1
num false = 0

pub num-lt : (d : Bool) → num d * 128 < 256
num-lt true = lit< tt
num-lt false = lit< tt

abbrev pub step : ℕ → Bool → ℕ
step r d = pec_bit (bit_xor r (num d * 128))

unfoldable pub fold : ℕ → List Bool → ℕ
fold r [] = r
fold r (d ∷ ds) = fold (step r d) ds

pub fold-append : (r : ℕ) (p q : List Bool) → fold r (p ++ q) ≡ fold (fold r p) q
unfolding fold
fold-append r [] q = refl
fold-append r (d ∷ p) q = fold-append (step r d) p q

pub fold-lt : (r : ℕ) (p : List Bool) → r < 256 → fold r p < 256
unfolding fold
fold-lt r [] h = h
fold-lt r (d ∷ p) h = fold-lt (step r d) p (bit-lt (bit_xor r (num d * 128)))

-- ---- a byte is its eight bits

-- the part of the input below the high bit passes through a step: it is shifted
low_part : (z l : ℕ) → z < 256 → l < 128 → pec_bit (bit_xor z l) ≡ bit_xor (pec_bit z) (l * 2)
unfolding pec_bit
low_part z l hz hl = go (ltb z 128) refl
  where
    none : (l : ℕ) → l < 128 → l / 128 ≡ 0
    none l h = omega arith

    small : (l : ℕ) → l < 128 → l * 2 % 256 ≡ l * 2
    small l h = omega arith

    top : bit_xor z l / 128 ≡ z / 128
    top = xor_shr z l 7 ∙ ap (bit_xor (z / 128)) (none l hl) ∙ xor_zero_r (z / 128)

    twice : bit_xor z l * 2 ≡ bit_xor (z * 2) (l * 2)
    twice = sym (ap₂ bit_xor (sym (add-zero (z * 2))) (sym (add-zero (l * 2))) ∙ xor_block 1 z l 0 0 (lit< tt) (lit< tt) ∙ add-zero (bit_xor z l * 2))

    go : (b : Bool) → ltb z 128 ≡ b
        → cond (ltb (bit_xor z l) 128) (bit_xor z l * 2) (bit_xor (bit_xor z l * 2 % 256) 7) ≡ bit_xor (cond b (z * 2) (bit_xor (z * 2 % 256) 7)) (l * 2)
    go true e =
        let h : bit_xor z l < 128 = omega (arith, top, ltb-true z 128 e) in
        rw (lt-ltb (bit_xor z l) 128 h) twice
    go false e =
        let h : 128 ≤ bit_xor z l = omega (arith, top, ltb-false z 128 e) in
        rw (le-ltb (bit_xor z l) 128 h)
        (ap (λ (w : ℕ). bit_xor (w % 256) 7) twice
        ∙ ap (λ (w : ℕ). bit_xor w 7) (xor_mod (z * 2) (l * 2) 8 ∙ ap (bit_xor (z * 2 % 256)) (small l hl))
        ∙ xor_swap (z * 2 % 256) (l * 2) 7)

one_in : (r y : ℕ) → r < 256 → y < 256 → pec_bit (bit_xor r y) ≡ bit_xor (step r (eqb (y / 128) 1)) (y * 2 % 256)
one_in r y hr hy =
    ap (λ (w : ℕ). pec_bit (bit_xor r w)) parts
    ∙ ap pec_bit (sym (xor_assoc r (y / 128 * 128) (y % 128)))
    ∙ low_part (bit_xor r (y / 128 * 128)) (y % 128) (xor_lt 8 r (y / 128 * 128) hr (omega arith)) (omega arith)
    ∙ ap₂ (λ (d w : ℕ). bit_xor (pec_bit (bit_xor r (d * 128))) w) (sym (agree (λ y. num (eqb (y / 128) 1)) (λ y. y / 128) 256 tt y hy)) (low y)
  where
    parts : y ≡ bit_xor (y / 128 * 128) (y % 128)
    parts = sym (xor_shifted (y / 128) 7 (y % 128) (omega arith) ∙ div-add-mod' y 128)

    low : (y : ℕ) → y % 128 * 2 ≡ y * 2 % 256
    low y = omega arith

-- n shifts of the register with y in it are n bits of y in turn, with what is left of y in the register
abbrev iter : ℕ → ℕ → ℕ
iter zero x = x
iter (suc n) x = iter n (pec_bit x)

abbrev tops : ℕ → ℕ → List Bool
tops zero y = []
tops (suc n) y = eqb (y / 128) 1 ∷ tops n (y * 2 % 256)

abbrev left : ℕ → ℕ → ℕ
left zero y = y
left (suc n) y = left n (y * 2 % 256)

all_in : (n r y : ℕ) → r < 256 → y < 256 → iter n (bit_xor r y) ≡ bit_xor (fold r (tops n y)) (left n y)
unfolding fold
all_in zero r y hr hy = refl
all_in (suc n) r y hr hy =
    ap (iter n) (one_in r y hr hy) ∙ all_in n (step r (eqb (y / 128) 1)) (y * 2 % 256) (bit-lt (bit_xor r (num (eqb (y / 128) 1) * 128))) (omega arith)

abbrev same : List Bool → List Bool → Bool
same [] [] = true
same [] (b ∷ ys) = false
same (a ∷ xs) [] = false
same (true ∷ xs) (true ∷ ys) = same xs ys
same (true ∷ xs) (false ∷ ys) = false
same (false ∷ xs) (true ∷ ys) = false
same (false ∷ xs) (false ∷ ys) = same xs ys

same→eq : (xs ys : List Bool) → T (same xs ys) → xs ≡ ys
same→eq [] [] t = refl
same→eq [] (b ∷ ys) t = absurd t
same→eq (a ∷ xs) [] t = absurd t
same→eq (true ∷ xs) (true ∷ ys) t = ap (λ (l : List Bool). true ∷ l) (same→eq xs ys t)
same→eq (true ∷ xs) (false ∷ ys) t = absurd t
same→eq (false ∷ xs) (true ∷ ys) t = absurd t
same→eq (false ∷ xs) (false ∷ ys) t = ap (λ (l : List Bool). false ∷ l) (same→eq xs ys t)

byte-bits : (r b : ℕ) → r < 256 → b < 256 → pec_byte r b ≡ fold r (bits8 b)
unfolding pec_byte bits8
byte-bits r b hr hb = all_in 8 r b hr hb ∙ ap (bit_xor (fold r (tops 8 b))) none ∙ xor_zero_r (fold r (tops 8 b)) ∙ ap (fold r) digits
  where
    none : left 8 b ≡ 0
    none = agree (left 8) (λ b. 0) 256 tt b hb

    digits : tops 8 b ≡ bits8 b
    digits = same→eq (tops 8 b) (bits8 b) (each (λ b. same (tops 8 b) (bits8 b)) 256 tt b hb)

pub bytes_bits : (r : ℕ) (s : List ℕ) → r < 256 → Bytes s → pec_from r s ≡ fold r (bus_bits s)
unfolding pec_from bus_bits Bytes fold
bytes_bits r [] hr h = refl
bytes_bits r (b ∷ bs) hr h =
    bytes_bits (pec_byte r b) bs (subst (λ (x : ℕ). x < 256) (sym e) (fold-lt r (bits8 b) hr)) h.1
    ∙ ap (λ (x : ℕ). fold x (bus_bits bs)) e ∙ sym (fold-append r (bits8 b) (bus_bits bs))
  where
    e : pec_byte r b ≡ fold r (bits8 b)
    e = byte-bits r b hr h.0
