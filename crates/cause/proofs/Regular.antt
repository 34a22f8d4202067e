-- The table is regular: computed at each line.
-- Assumes nothing.
use Prim.Native.Nat.{ℕ, zero, suc, ◌+◌, ◌<◌}
use mathlib.Core.Path.{◌≡◌, refl}
use mathlib.Core.Bool.{true}
use native.Mathlib.Omega.{arith}
use lib.Dec.{ltb}
use lib.ListN.{get_or}
use borrow.Author.Tests.{ltb-true}
use Rattle.laws.proofs.Every.{agree, agree-test}
use Rattle.cause.specs.Causes.{causes, warnings, limit_of, response_of, stays_off_at}
use Rattle.cause.specs.Regular.{Regular, RegularCause, RegularWarning, fault_bit, warning_bit, warned, TableRegular}

pub regular : (n : ℕ) → n < 11 → Regular n
unfolding causes warnings
regular n h = record {
  place = agree (λ n. (limit_of n).number) (λ n. n) 11 tt n h;
  register = agree (λ n. (limit_of n).status_code) (λ n. 0x7A + (limit_of n).quantity) 11 tt n h;
}

pub regular-cause : (n : ℕ) → n < 6 → RegularCause n
unfolding causes warnings
regular-cause n h = record {
  bit = agree (λ n. (limit_of n).bit_number) (λ n. fault_bit (limit_of n).side) 6 tt n h;
  start = agree (λ n. (limit_of n).starts_from) (λ n. n) 6 tt n h;
  next = agree (λ n. (response_of n).response_code) (λ n. (limit_of n).limit_code + 1) 6 tt n h;
  careful = agree-test (λ n. stays_off_at (response_of n).actions (response_of n).power_on_response) (λ n. true) 6 tt n h;
}

sides : (i : ℕ) → i < 5 → (limit_of (6 + i)).side ≡ (limit_of (get_or warned i 0)).side
unfolding causes warnings
sides zero h = refl
sides (suc zero) h = refl
sides (suc (suc zero)) h = refl
sides (suc (suc (suc zero))) h = refl
sides (suc (suc (suc (suc zero)))) h = refl
sides (suc (suc (suc (suc (suc i))))) h = absurd (omega arith)

pub regular-warning : (i : ℕ) → i < 5 → RegularWarning (6 + i) (get_or warned i 0)
unfolding causes warnings
regular-warning i h = record {
  quantity = agree (λ i. (limit_of (6 + i)).quantity) (λ i. (limit_of (get_or warned i 0)).quantity) 5 tt i h;
  side = sides i h;
  bit = agree (λ i. (limit_of (6 + i)).bit_number) (λ i. warning_bit (limit_of (6 + i)).side (limit_of (6 + i)).quantity) 5 tt i h;
  start = agree (λ i. (limit_of (6 + i)).starts_from) (λ i. get_or warned i 0) 5 tt i h;
}

pub table-regular : TableRegular
unfolding TableRegular causes warnings
table-regular = (
  regular,
  regular-cause,
  regular-warning,
  λ i h. ltb-true _ _ (agree-test (λ i. ltb (limit_of (0 + i)).limit_code (limit_of (0 + i + 1)).limit_code) (λ i. true) 5 tt i h),
  λ i h. ltb-true _ _ (agree-test (λ i. ltb (limit_of (6 + i)).limit_code (limit_of (6 + i + 1)).limit_code) (λ i. true) 4 tt i h),
)
