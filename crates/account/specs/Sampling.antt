-- What a power sample adds to an account, and that an account is read back from its reply (data sheet 9).
-- Assumes nothing.
use Rattle.std.specs.Prelude.{ℕ, ◌+◌, ◌%◌, ◌<◌, ◌≤◌, ◌≡◌, true}
use Rattle.account.specs.declared.Account.{Account}
use Rattle.account.specs.Account.{Sampled, account_valid, sampled, energy_reading, ein_bytes, account_of}

-- the account a became b by a sample taken: both readings move by it, and wrap (data sheet 9.4, 9.6)
pub record Added (sample : ℕ) (a b : Account) : Type 0 where
  pub energy : energy_reading b ≡ (energy_reading a + sample) % 8388608
  pub count : b.count ≡ (a.count + 1) % 16777216
  pub valid : account_valid b ≡ true

-- A sample below 32768 is taken with answer 0; any other gets 13 and changes nothing (data sheet 9.2).
pub record SampleDoes (sample : ℕ) (a : Account) (r : Sampled) : Type 0 where
  pub taken : sample < 32768 → (r.answer ≡ 0) × Added sample a r.account
  pub refused : 32768 ≤ sample → (r.answer ≡ 13) × (r.account ≡ a)

-- of every valid account; READ_EIN's bytes carry it whole (data sheet 9.5)
unfoldable pub AccountCounts : Type 0
AccountCounts =
    (a : Account) → account_valid a ≡ true → ((sample : ℕ) → SampleDoes sample a (sampled a sample)) × (account_of (ein_bytes a) ≡ a)
