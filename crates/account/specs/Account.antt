-- The energy account (data sheet 9.1): a 15 bit accumulator, an 8 bit rollover count, a 24 bit sample count.
-- Assumes nothing.
use Rattle.std.specs.Prelude.{ℕ, ◌+◌, ◌*◌, ◌-◌, ◌%◌, ◌/◌, Bool, cond, ◌&&◌, List, [], ◌∷◌, ltb, get_or}
use Rattle.account.specs.declared.Account.{Account}

abbrev pub account : ℕ → ℕ → ℕ → Account
account a r c = record { accumulator = a; rollover = r; count = c }

-- every field in its range (data sheet 9.1)
unfoldable pub account_valid : Account → Bool
account_valid a = ltb a.accumulator 32768 && ltb a.rollover 256 && ltb a.count 16777216

-- one sample more: a sum past 32767 loses 32768 and makes a rollover; both counts wrap (data sheet 9.3, 9.4)
unfoldable pub added : Account → ℕ → Account
added a sample =
    cond (ltb (a.accumulator + sample) 32768)
    (account (a.accumulator + sample) a.rollover ((a.count + 1) % 16777216))
    (account (a.accumulator + sample - 32768) ((a.rollover + 1) % 256) ((a.count + 1) % 16777216))

-- the account after a sample, and the answer number
pub record Sampled : Type 0 where
  pub account : Account
  pub answer : ℕ

-- a sample over 32767 gets answer 13 and is not booked (data sheet 9.2)
unfoldable pub sampled : Account → ℕ → Sampled
sampled a sample =
    cond (ltb sample 32768) (record { account = added a sample; answer = 0 }) (record { account = a; answer = 13 })

-- the reading of an account (data sheet 9.6)
unfoldable pub energy_reading : Account → ℕ
energy_reading a = a.rollover * 32768 + a.accumulator

-- the seven data bytes of READ_EIN (data sheet 9.5)
unfoldable pub ein_bytes : Account → List ℕ
ein_bytes a =
    6
    ∷ a.accumulator % 256
    ∷ a.accumulator / 256 % 256
    ∷ a.rollover % 256
    ∷ a.count % 256
    ∷ a.count / 256 % 256
    ∷ a.count / 65536 % 256
    ∷ []

-- the account that such bytes carry; a byte that is not there is taken as 0
unfoldable pub account_of : List ℕ → Account
account_of s =
    account (get_or s 1 0 + get_or s 2 0 * 256) (get_or s 3 0) (get_or s 4 0 + get_or s 5 0 * 256 + get_or s 6 0 * 65536)
