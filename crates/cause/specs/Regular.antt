-- What holds of every line of the table, whatever the line: two entries that are swapped, a code, a bit, a side or a quantity, break it, also
-- where the code has the same slip.
-- Assumes nothing.
use Rattle.std.specs.Prelude.{ℕ, ◌+◌, ◌<◌, ◌≡◌, true, cond, List, [], ◌∷◌, eqb, get_or}
use Rattle.cause.specs.Causes.{Side, above, below, IOUT, limit_of, response_of, stays_off_at}

-- the bit of a fault: the highest where a limit is crossed upwards
abbrev pub fault_bit : Side → ℕ
fault_bit above = 7
fault_bit below = 4

-- the bit of a warning stands between them; where a current is crossed upwards, bit 6 is another fault's in the standard
abbrev pub warning_bit : Side → ℕ → ℕ
warning_bit above quantity = cond (eqb quantity IOUT) 5 6
warning_bit below quantity = 5

-- the causes that have a warning, in the order of the warnings: all but 3, UT
abbrev pub warned : List ℕ
warned = 0 ∷ 1 ∷ 2 ∷ 4 ∷ 5 ∷ []

-- a line of a cause or of a warning
pub record Regular (n : ℕ) : Type 0 where
  -- lines stand at their number
  pub place : (limit_of n).number ≡ n
  -- a quantity has its register, 7Ah for 0 to 7Dh for 3
  pub register : (limit_of n).status_code ≡ 0x7A + (limit_of n).quantity

pub record RegularCause (n : ℕ) : Type 0 where
  pub bit : (limit_of n).bit_number ≡ fault_bit (limit_of n).side
  -- its word at power-on is its own
  pub start : (limit_of n).starts_from ≡ n
  -- the response's code follows the limit's
  pub next : (response_of n).response_code ≡ (limit_of n).limit_code + 1
  -- at power-on a supply that meets the cause shuts down and stays off
  pub careful : stays_off_at (response_of n).actions (response_of n).power_on_response ≡ true

-- line n is the warning of cause m
pub record RegularWarning (n m : ℕ) : Type 0 where
  pub quantity : (limit_of n).quantity ≡ (limit_of m).quantity
  pub side : (limit_of n).side ≡ (limit_of m).side
  pub bit : (limit_of n).bit_number ≡ warning_bit (limit_of n).side (limit_of n).quantity
  -- its word at power-on is that limit's
  pub start : (limit_of n).starts_from ≡ m

-- the codes of the k + 1 lines from n on rise
abbrev pub Rise : ℕ → ℕ → Type 0
Rise n k = (i : ℕ) → i < k → (limit_of (n + i)).limit_code < (limit_of (n + i + 1)).limit_code

-- six causes and then five warnings, each in the order of their codes
unfoldable pub TableRegular : Type 0
TableRegular =
    ((n : ℕ) → n < 11 → Regular n) × ((n : ℕ) → n < 6 → RegularCause n)
    × ((i : ℕ) → i < 5 → RegularWarning (6 + i) (get_or warned i 0)) × Rise 0 5 × Rise 6 4
