-- The fields of a reply, by the number of its data bytes (data sheet 18.6).
-- Assumes nothing.
use Rattle.std.specs.Prelude.{ℕ, ◌+◌, ◌*◌, ◌<◌, ◌≡◌, ◌⊎◌, Bool, true, List, get_or}
use Rattle.account.specs.Account.{account}
use Rattle.command.specs.Table.{lookup}
use Rattle.host.specs.Parse.{parse_answer, reply, parsed}
use Rattle.host.specs.declared.parse.Reply.{Reply}

-- a code that is read has one data byte, or two, or seven, and these 86h alone
unfoldable pub DataKinds : Type 0
DataKinds =
    (code : ℕ) → code < 256 → (lookup code).read ≡ true
    → ((lookup code).length ≡ 1) ⊎ (((lookup code).length ≡ 2) ⊎ (((lookup code).length ≡ 7) × (code ≡ 0x86)))

-- what a reply s of a code with k data bytes is read into; words are low byte first
pub record Fields (answer k : ℕ) (s : List ℕ) (r : Reply) : Type 0 where
  pub refused : (answer ≡ 0 → ⊥) → r ≡ reply answer 0 0 (account 0 0 0)
  pub one : answer ≡ 0 → k ≡ 1 → r ≡ reply 0 (get_or s 0 0) 0 (account 0 0 0)
  pub two : answer ≡ 0 → k ≡ 2 → r ≡ reply 0 0 (get_or s 0 0 + 256 * get_or s 1 0) (account 0 0 0)
  -- accumulator, rollover count, sample count
  pub seven : answer ≡ 0 → k ≡ 7
      → r ≡ reply 0 0 0
      (account (get_or s 1 0 + 256 * get_or s 2 0) (get_or s 3 0) (get_or s 4 0 + 256 * get_or s 5 0 + 65536 * get_or s 6 0))

unfoldable pub FieldsRead : Type 0
FieldsRead = (code : ℕ) (check : Bool) (s : List ℕ) → Fields (parse_answer code check s) (lookup code).length s (parsed code check s)
