-- STATUS_BYTE and STATUS_WORD, bit by bit.
-- Assumes nothing.
use Prim.Native.Nat.{ℕ, ◌/◌, ◌%◌, ◌^◌, ◌<◌}
use mathlib.Core.Path.{◌≡◌, ap, ap₂, ◌∙◌}
use mathlib.Core.Bool.{Bool, not, ◌&&◌, ◌||◌, and-true, and-false, or-false, or_assoc}
use mathlib.Core.List.{[], ◌∷◌}
use lib.Dec.{eqb}
use lib.Bits.{bit_or}
use Rattle.laws.specs.Bits.{bit}
use Rattle.laws.proofs.Every.{agree-test}
use Rattle.laws.proofs.Lists.{byte-lt}
use Rattle.page.specs.declared.Page.{Page}
use Rattle.page.specs.Causes.{weigh}
use Rattle.page.specs.Status.{supplies, status_byte, status_high, vout, iout, input, temperature, any, other_bit}
use Rattle.page.specs.StatusWords.{one_of, any_bit, StatusWords}
use Rattle.page.proofs.Settled.{weighed, or_weighed}

-- ---- a register's test is one of its bits

any-bit : (x : ℕ) → x < 256 → any x ≡ any_bit x
any-bit x h = agree-test any any_bit 256 tt x h

vout-others : (x : ℕ) → x < 256 → any (x % 128) ≡ one_of x (6 ∷ 5 ∷ 4 ∷ 3 ∷ 2 ∷ 1 ∷ 0 ∷ [])
vout-others x h = agree-test (λ x. any (x % 128)) (λ x. one_of x (6 ∷ 5 ∷ 4 ∷ 3 ∷ 2 ∷ 1 ∷ 0 ∷ [])) 256 tt x h

iout-others : (x : ℕ) → x < 256 → any (x % 64) ≡ one_of x (5 ∷ 4 ∷ 3 ∷ 2 ∷ 1 ∷ 0 ∷ [])
iout-others x h = agree-test (λ x. any (x % 64)) (λ x. one_of x (5 ∷ 4 ∷ 3 ∷ 2 ∷ 1 ∷ 0 ∷ [])) 256 tt x h

input-others : (x : ℕ) → x < 256 → (any (x / 32) || any (x % 16)) ≡ one_of x (7 ∷ 6 ∷ 5 ∷ 3 ∷ 2 ∷ 1 ∷ 0 ∷ [])
input-others x h = agree-test (λ x. any (x / 32) || any (x % 16)) (λ x. one_of x (7 ∷ 6 ∷ 5 ∷ 3 ∷ 2 ∷ 1 ∷ 0 ∷ [])) 256 tt x h

-- ---- the bits of a byte put together from tests

more : (x : ℕ) (v b : Bool) (m k : ℕ) → bit x k ≡ v → bit (bit_or x (weigh b (2 ^ m))) k ≡ (v || b && eqb m k)
more x v b m k e = or_weighed x b m k ∙ ap (λ (y : Bool). y || b && eqb m k) e

module _ (p : Page) (cml k : ℕ) where
  low_bits :
      bit (status_byte p cml) k
      ≡ (not (supplies p) && eqb 6 k || bit (vout p) 7 && eqb 5 k || (bit (iout p) 7 || bit (iout p) 6) && eqb 4 k || bit (input p) 4 && eqb 3 k
      || any (temperature p) && eqb 2 k || any cml && eqb 1 k || other_bit p && eqb 0 k)
  unfolding status_byte
  low_bits =
      more _ _ (other_bit p) 0 k
      (more _ _ (any cml) 1 k
      (more _ _ (any (temperature p)) 2 k
      (more _ _ (bit (input p) 4) 3 k
      (more _ _ (bit (iout p) 7 || bit (iout p) 6) 4 k (more _ _ (bit (vout p) 7) 5 k (weighed (not (supplies p)) 6 k))))))

  high_bits : bit (status_high p) k ≡ (any (vout p) && eqb 7 k || any (iout p) && eqb 6 k || any (input p) && eqb 5 k || not (supplies p) && eqb 3 k)
  unfolding status_high
  high_bits =
      more _ _ (not (supplies p)) 3 k (more _ _ (any (input p)) 5 k (more _ _ (any (iout p)) 6 k (weighed (any (vout p)) 7 k)))

ruleset tidy = (and-true, and-false, or-false)

-- the bits of a page that does not supply, whatever its registers hold
pub off_low : (p : Page) (cml : ℕ) → bit (status_byte p cml) 6 ≡ not (supplies p)
off_low p cml = low_bits p cml 6 ∙ simp tidy

pub off_high : (p : Page) → bit (status_high p) 3 ≡ not (supplies p)
off_high p = high_bits p 0 3 ∙ simp tidy

pub status_words : StatusWords
unfolding StatusWords
status_words p cml b h =
    let v = byte-lt p.status b 0 in
    let i = byte-lt p.status b 1 in
    let n = byte-lt p.status b 2 in
    let t = byte-lt p.status b 3 in
    let others =
    ap₂ ◌||◌ (ap₂ ◌||◌ (vout-others (vout p) v) (iout-others (iout p) i)) (input-others (input p) n) in (
      record {
        bit7 = low_bits p cml 7 ∙ simp tidy;
        bit6 = off_low p cml;
        bit5 = low_bits p cml 5 ∙ simp tidy;
        bit4 = low_bits p cml 4 ∙ simp tidy;
        bit3 = low_bits p cml 3 ∙ simp tidy;
        bit2 = (simp tidy at (low_bits p cml 2)) ∙ any-bit (temperature p) t;
        bit1 = (simp tidy at (low_bits p cml 1)) ∙ any-bit cml h;
        bit0 = (simp tidy at (low_bits p cml 0)) ∙ or_assoc (any (vout p % 128) || any (iout p % 64)) (any (input p / 32)) (any (input p % 16)) ∙ others;
      },
      record {
        bit7 = (simp tidy at (high_bits p cml 7)) ∙ any-bit (vout p) v;
        bit6 = (simp tidy at (high_bits p cml 6)) ∙ any-bit (iout p) i;
        bit5 = (simp tidy at (high_bits p cml 5)) ∙ any-bit (input p) n;
        bit4 = high_bits p cml 4 ∙ simp tidy;
        bit3 = off_high p;
        bit2 = high_bits p cml 2 ∙ simp tidy;
        bit1 = high_bits p cml 1 ∙ simp tidy;
        bit0 = high_bits p cml 0 ∙ simp tidy;
      },
    )
