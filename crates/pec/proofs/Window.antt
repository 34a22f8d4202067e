-- At most eight bits can be read back from the register that they left, and bits that follow in both copies lose nothing.
-- Assumes nothing.
use mathlib.Core.Path.{◌≡◌, refl, sym, ap, ap₂, ◌∙◌, subst}
use mathlib.Core.Bool.{Bool, true, false}
use Prim.Native.Nat.{ℕ, suc, ◌+◌, ◌-◌, ◌*◌, ◌/◌, ◌%◌, ◌^◌, ◌<◌, ◌≤◌}
use native.Mathlib.Nat.{zero-add}
use native.Mathlib.Omega.{arith}
use mathlib.Core.List.{List, [], ◌∷◌}
use lib.ListN.{length}
use lib.Pow.{field, mod-mod-pow}
use lib.Bits.{bit_xor, xor_shr, xor_mod, xor_lt, xor_zero_r, xor_comm}
use Rattle.laws.proofs.Every.{agree}
use Rattle.pec.specs.Pec.{pec_bit}
use Rattle.pec.proofs.Laws.{bit-lt}
use Rattle.pec.proofs.Bits.{num, num-lt, step, fold}
use Rattle.pec.proofs.Xor.{xor_cancel}

-- what a step leaves: its low bit says what was shifted out, and the rest can be read back
undo : ℕ → ℕ
undo y = bit_xor y (y % 2 * 7) / 2

undo_bit : (x : ℕ) → x < 256 → undo (pec_bit x) ≡ x % 128
unfolding undo pec_bit
undo_bit = agree (λ x. undo (pec_bit x)) (λ x. x % 128) 256 tt

out_bit : (x : ℕ) → x < 256 → pec_bit x % 2 ≡ x / 128
unfolding pec_bit
out_bit = agree (λ x. pec_bit x % 2) (λ x. x / 128) 256 tt

module _ (r : ℕ) (d : Bool) (hr : r < 256) where
  in_lt : bit_xor r (num d * 128) < 256
  in_lt = xor_lt 8 r (num d * 128) hr (num-lt d)

  undo_step : undo (step r d) ≡ r % 128
  undo_step =
      undo_bit (bit_xor r (num d * 128)) in_lt ∙ xor_mod r (num d * 128) 7 ∙ ap (bit_xor (r % 128)) (none (num d)) ∙ xor_zero_r (r % 128)
    where
      none : (n : ℕ) → n * 128 % 128 ≡ 0
      none n = omega arith

  out_step : step r d % 2 ≡ bit_xor (r / 128) (num d)
  out_step = out_bit (bit_xor r (num d * 128)) in_lt ∙ xor_shr r (num d * 128) 7 ∙ ap (bit_xor (r / 128)) (back (num d))
    where
      back : (n : ℕ) → n * 128 / 128 ≡ n
      back n = omega arith

-- the k low bits agree
abbrev Low : ℕ → ℕ → ℕ → Type 0
Low k x y = x % 2 ^ k ≡ y % 2 ^ k

-- the k low bits of what is read back are made from the k + 1 low bits
undo_low : (k y : ℕ) → undo y % 2 ^ k ≡ bit_xor (y % 2 ^ (k + 1)) (y % 2 ^ (k + 1) % 2 * 7 % 2 ^ (k + 1)) / 2
unfolding undo
undo_low k y =
    sym (field (bit_xor y (y % 2 * 7)) k 1)
    ∙ ap (λ (n : ℕ). n / 2) (xor_mod y (y % 2 * 7) (k + 1) ∙ ap (λ (n : ℕ). bit_xor (y % 2 ^ (k + 1)) (n * 7 % 2 ^ (k + 1))) (sym (mod-mod-pow y k 1)))

back_low : (k j : ℕ) → j + k ≡ 7 → (r r' : ℕ) (d d' : Bool) → r < 256 → r' < 256 → Low (k + 1) (step r d) (step r' d') → Low k r r'
back_low k j e r r' d d' hr hr' h =
    sym (same_low r d hr) ∙ undo_low k (step r d)
    ∙ ap (λ (m : ℕ). bit_xor m (m % 2 * 7 % 2 ^ (k + 1)) / 2) h
    ∙ sym (undo_low k (step r' d')) ∙ same_low r' d' hr'
  where
    same_low : (r : ℕ) (d : Bool) → r < 256 → undo (step r d) % 2 ^ k ≡ r % 2 ^ k
    same_low r d hr = ap (λ (x : ℕ). x % 2 ^ k) (undo_step r d hr ∙ ap (λ (n : ℕ). r % 2 ^ n) (sym e)) ∙ mod-mod-pow r j k

-- registers that agree in n + k low bits after n bits of any input agreed in k before it
before : (w w' : List Bool) (k r r' : ℕ) → length w ≡ length w' → length w + k ≤ 8 → r < 256 → r' < 256
    → Low (length w + k) (fold r w) (fold r' w') → Low k r r'
unfolding fold
before [] [] k r r' e l hr hr' h = rw zero-add at h
before [] (d ∷ w) k r r' e l hr hr' h = absurd (omega arith)
before (d ∷ w) [] k r r' e l hr hr' h = absurd (omega arith)
before (d ∷ w) (d' ∷ w') k r r' e l hr hr' h =
    back_low k (7 - k) (omega arith) r r' d d' hr hr'
    (before w w' (k + 1) (step r d) (step r' d') (omega arith) (omega arith) (bit-lt (bit_xor r (num d * 128))) (bit-lt (bit_xor r' (num d' * 128)))
    (subst (λ (n : ℕ). Low n (fold (step r d) w) (fold (step r' d') w')) (shift (length w) k) h))
  where
    shift : (n k : ℕ) → suc n + k ≡ n + (k + 1)
    shift n k = omega arith

num-eq : (d d' : Bool) → num d ≡ num d' → d ≡ d'
num-eq true true e = refl
num-eq true false e = absurd (omega arith)
num-eq false true e = absurd (omega arith)
num-eq false false e = refl

-- at most eight bits are read back from the register
pub window : (w w' : List Bool) (r : ℕ) → r < 256 → length w ≡ length w' → length w ≤ 8 → fold r w ≡ fold r w' → w ≡ w'
unfolding fold
window [] [] r hr e l h = refl
window [] (d ∷ w) r hr e l h = absurd (omega arith)
window (d ∷ w) [] r hr e l h = absurd (omega arith)
window (d ∷ w) (d' ∷ w') r hr e l h =
    ap₂ (λ (x : Bool) (xs : List Bool). x ∷ xs) first
    (window w w' (step r d) (bit-lt (bit_xor r (num d * 128))) (omega arith) (omega arith) (h ∙ ap (λ (x : Bool). fold (step r x) w') (sym first)))
  where
    low : step r d % 2 ≡ step r d' % 2
    low =
        before w w' 1 (step r d) (step r d') (omega arith) (omega arith) (bit-lt (bit_xor r (num d * 128))) (bit-lt (bit_xor r (num d' * 128)))
        (ap (λ (x : ℕ). x % 2 ^ (length w + 1)) h)

    first : d ≡ d'
    first = num-eq d d' (xor_cancel (r / 128) (num d) (num d') (sym (out_step r d hr) ∙ low ∙ out_step r d' hr))

-- the same bits after them keep two registers apart
step-inj : (r r' : ℕ) (d : Bool) → r < 256 → r' < 256 → step r d ≡ step r' d → r ≡ r'
step-inj r r' d hr hr' e = whole (xor_cancel (num d) (r / 128) (r' / 128) top) (sym (undo_step r d hr) ∙ ap undo e ∙ undo_step r' d hr')
  where
    top : bit_xor (num d) (r / 128) ≡ bit_xor (num d) (r' / 128)
    top = xor_comm (num d) (r / 128) ∙ sym (out_step r d hr) ∙ ap (λ (x : ℕ). x % 2) e ∙ out_step r' d hr' ∙ xor_comm (r' / 128) (num d)

    whole : r / 128 ≡ r' / 128 → r % 128 ≡ r' % 128 → r ≡ r'
    whole p q = omega arith

pub kept : (q : List Bool) (r r' : ℕ) → r < 256 → r' < 256 → fold r q ≡ fold r' q → r ≡ r'
unfolding fold
kept [] r r' hr hr' h = h
kept (d ∷ q) r r' hr hr' h =
    step-inj r r' d hr hr' (kept q (step r d) (step r' d) (bit-lt (bit_xor r (num d * 128))) (bit-lt (bit_xor r' (num d * 128))) h)
