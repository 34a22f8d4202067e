-- When a write gets answer 0 (data sheet 3.7): well formed, permitted, and of valid data.
-- Assumes nothing.
use Rattle.std.specs.Prelude.{ℕ, ◌+◌, ◌-◌, ◌≤◌, ◌≡◌, ◌⊎◌, ◌↔◌, true, List, length, get_or, take}
use Rattle.pec.specs.Pec.{pec}
use Rattle.command.specs.Table.{lookup}
use Rattle.unpaged.specs.declared.Unpaged.{Unpaged}
use Rattle.writes.specs.Asked.{asked, valid_write}
use Rattle.writes.specs.Answers.{permitted, write_answer}

abbrev pub code_of : List ℕ → ℕ
code_of s = get_or s 1 0

-- the last byte is the packet check of those before it
abbrev pub RightPec : List ℕ → Type 0
RightPec s = pec (take (length s - 1) s) ≡ get_or s (length s - 1) 0

-- address, a code that is written, its data, and perhaps the right PEC (data sheet 2.8)
pub record WellFormed (s : List ℕ) : Type 0 where
  pub two : 2 ≤ length s
  pub address : get_or s 0 0 ≡ 0xC0
  pub marked : (lookup (code_of s)).written ≡ true
  pub data_bytes : (length s ≡ 2 + (lookup (code_of s)).length) ⊎ ((length s ≡ 2 + (lookup (code_of s)).length + 1) × RightPec s)

-- well formed, permitted, and of valid data in a device of n pages
pub record Acceptable (n : ℕ) (u : Unpaged) (s : List ℕ) : Type 0 where
  pub formed : WellFormed s
  pub allowed : permitted u.protect (code_of s) ≡ true
  pub valid : valid_write n (asked s) ≡ true

unfoldable pub Accepted : Type 0
Accepted = (n : ℕ) (u : Unpaged) (s : List ℕ) → (write_answer n u s ≡ 0) ↔ Acceptable n u s
