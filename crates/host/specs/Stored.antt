-- Each byte of the caller's buffer after building, one kind after the other (data sheet 18.2, 18.3, 18.5).
-- Assumes nothing.
use Rattle.std.specs.Prelude.{ℕ, ◌+◌, ◌<◌, ◌≤◌, ◌≡◌, Bool, true, List, ◌∷◌, length, get_or}
use Rattle.pec.specs.Pec.{pec}
use Rattle.replies.specs.Replies.{read_header}
use Rattle.host.specs.Build.{write_frame, write_built, read_built, placed}
use Rattle.host.specs.Applies.{write_size}

-- ---- what stays: with n bytes built from the place on, those before and behind; under a refusal all
pub record Kept (answer : ℕ) (buffer after : List ℕ) (place n : ℕ) : Type 0 where
  pub as_long : length after ≡ length buffer
  pub refused : (answer ≡ 0 → ⊥) → after ≡ buffer
  pub before : (i : ℕ) → i < place → get_or after i 0 ≡ get_or buffer i 0
  pub behind : (i : ℕ) → place + n ≤ i → get_or after i 0 ≡ get_or buffer i 0

-- ---- a write

abbrev pub write_gets : List ℕ → ℕ → ℕ → List ℕ → Bool → ℕ
write_gets buffer place code bytes check = (write_built (length buffer) place code bytes check).answer

abbrev pub after_write : List ℕ → ℕ → ℕ → List ℕ → Bool → List ℕ
after_write buffer place code bytes check =
    placed (write_built (length buffer) place code bytes check) buffer place (write_frame code bytes check)

-- what was built: C0h, the code, the data, and the PEC of all of them as the last
pub record WriteBytes (after : List ℕ) (place code : ℕ) (bytes : List ℕ) (check : Bool) : Type 0 where
  pub address : get_or after place 0 ≡ 0xC0
  pub code-byte : get_or after (place + 1) 0 ≡ code
  pub data_bytes : (j : ℕ) → j < length bytes → get_or after (place + (2 + j)) 0 ≡ get_or bytes j 0
  pub check_byte : check ≡ true → get_or after (place + (2 + length bytes)) 0 ≡ pec (0xC0 ∷ code ∷ bytes)

unfoldable pub WritesStored : Type 0
WritesStored =
    (buffer : List ℕ) (place code : ℕ) (bytes : List ℕ) (check : Bool)
    → Kept (write_gets buffer place code bytes check) buffer (after_write buffer place code bytes check) place (write_size bytes check)
    × (write_gets buffer place code bytes check ≡ 0 → WriteBytes (after_write buffer place code bytes check) place code bytes check)

-- ---- a read

abbrev pub read_gets : List ℕ → ℕ → ℕ → Bool → ℕ
read_gets buffer place code check = (read_built (length buffer) place code check).answer

abbrev pub after_read : List ℕ → ℕ → ℕ → Bool → List ℕ
after_read buffer place code check = placed (read_built (length buffer) place code check) buffer place (read_header code)

pub record HeaderBytes (after : List ℕ) (place code : ℕ) : Type 0 where
  pub address : get_or after place 0 ≡ 0xC0
  pub code-byte : get_or after (place + 1) 0 ≡ code
  pub second_address : get_or after (place + 2) 0 ≡ 0xC1

unfoldable pub ReadsStored : Type 0
ReadsStored =
    (buffer : List ℕ) (place code : ℕ) (check : Bool)
    → Kept (read_gets buffer place code check) buffer (after_read buffer place code check) place 3
    × (read_gets buffer place code check ≡ 0 → HeaderBytes (after_read buffer place code check) place code)
