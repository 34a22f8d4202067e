-- STATUS_BYTE and the high byte of STATUS_WORD, bit by bit, for registers that are bytes.
-- Assumes nothing.
use Rattle.std.specs.Prelude.{ℕ, ◌<◌, ◌≡◌, Bool, false, not, ◌||◌, List, [], ◌∷◌}
use Rattle.laws.specs.Bits.{bit}
use Rattle.laws.specs.Lists.{any_of, Bytes}
use Rattle.page.specs.declared.Page.{Page}
use Rattle.page.specs.Status.{supplies, status_byte, status_high, vout, iout, input, temperature}

-- one of the bits ks of x is 1
abbrev pub one_of : ℕ → List ℕ → Bool
one_of x ks = any_of (bit x) ks

abbrev pub any_bit : ℕ → Bool
any_bit x = one_of x (7 ∷ 6 ∷ 5 ∷ 4 ∷ 3 ∷ 2 ∷ 1 ∷ 0 ∷ [])

-- STATUS_BYTE (data sheet 6.10)
pub record LowByte (p : Page) (cml : ℕ) (x : ℕ) : Type 0 where
  pub bit7 : bit x 7 ≡ false
  pub bit6 : bit x 6 ≡ not (supplies p)
  pub bit5 : bit x 5 ≡ bit (vout p) 7
  pub bit4 : bit x 4 ≡ (bit (iout p) 7 || bit (iout p) 6)
  pub bit3 : bit x 3 ≡ bit (input p) 4
  pub bit2 : bit x 2 ≡ any_bit (temperature p)
  pub bit1 : bit x 1 ≡ any_bit cml
  pub bit0 :
      bit x 0
      ≡ (one_of (vout p) (6 ∷ 5 ∷ 4 ∷ 3 ∷ 2 ∷ 1 ∷ 0 ∷ []) || one_of (iout p) (5 ∷ 4 ∷ 3 ∷ 2 ∷ 1 ∷ 0 ∷ [])
      || one_of (input p) (7 ∷ 6 ∷ 5 ∷ 3 ∷ 2 ∷ 1 ∷ 0 ∷ []))

-- the high byte of STATUS_WORD (data sheet 6.11)
pub record HighByte (p : Page) (x : ℕ) : Type 0 where
  pub bit7 : bit x 7 ≡ any_bit (vout p)
  pub bit6 : bit x 6 ≡ any_bit (iout p)
  pub bit5 : bit x 5 ≡ any_bit (input p)
  pub bit4 : bit x 4 ≡ false
  pub bit3 : bit x 3 ≡ not (supplies p)
  pub bit2 : bit x 2 ≡ false
  pub bit1 : bit x 1 ≡ false
  pub bit0 : bit x 0 ≡ false

unfoldable pub StatusWords : Type 0
StatusWords =
    (p : Page) (cml : ℕ) → Bytes p.status → cml < 256 → LowByte p cml (status_byte p cml) × HighByte p (status_high p)
