-- The meaning of the codes against the table of causes and warnings: a line's codes mean that line's limit, response and register, and no
-- other code means a limit or a response.
-- Assumes nothing.
use Rattle.std.specs.Prelude.{ℕ, ◌<◌, ◌≡◌, get_or}
use Rattle.cause.specs.Causes.{limit_of, response_of, register, read_codes}
use Rattle.command.specs.declared.meaning.Command.TheVariants.{Limit, Response, Status, Reading}
use Rattle.command.specs.Meaning.{command_of}

-- the codes of line n, a cause's or a warning's
pub record LineMeant (n : ℕ) : Type 0 where
  pub limit : command_of (limit_of n).limit_code ≡ Limit n
  pub status : command_of (limit_of n).status_code ≡ Status (register (limit_of n))
  pub reading : command_of (get_or read_codes (limit_of n).quantity 0) ≡ Reading (limit_of n).quantity

-- the line of a code c that means a limit or a response
pub record OfTable (c : ℕ) : Type 0 where
  pub limit : (n : ℕ) → command_of c ≡ Limit n → (n < 11) × (c ≡ (limit_of n).limit_code)
  pub response : (n : ℕ) → command_of c ≡ Response n → (n < 6) × (c ≡ (response_of n).response_code)

unfoldable pub CausesAgree : Type 0
CausesAgree =
    ((n : ℕ) → n < 11 → LineMeant n) × ((n : ℕ) → n < 6 → command_of (response_of n).response_code ≡ Response n)
    × ((c : ℕ) → c < 256 → OfTable c)
