-- The unpaged part of the device, and what a refusal leaves of it.
-- Assumes nothing.
use Rattle.std.specs.Prelude.{ℕ, Bool, false, cond, ◌&&◌, ◌||◌, ltb, eqb}
use Rattle.std.specs.Int.Bits.{bit_or}
use Rattle.account.specs.declared.Account.{Account}
use Rattle.account.specs.Account.{account, account_valid}
use Rattle.page.specs.Status.{gains}
use Rattle.unpaged.specs.declared.Unpaged.{Unpaged}

-- one field changed
abbrev pub with_page : Unpaged → ℕ → Unpaged
with_page u x = record { page = x; protect = u.protect; cml = u.cml; alert = u.alert; energy = u.energy }

abbrev pub with_protect : Unpaged → ℕ → Unpaged
with_protect u x = record { page = u.page; protect = x; cml = u.cml; alert = u.alert; energy = u.energy }

abbrev pub with_cml : Unpaged → ℕ → Unpaged
with_cml u x = record { page = u.page; protect = u.protect; cml = x; alert = u.alert; energy = u.energy }

abbrev pub with_alert : Unpaged → Bool → Unpaged
with_alert u b = record { page = u.page; protect = u.protect; cml = u.cml; alert = b; energy = u.energy }

abbrev pub with_energy : Unpaged → Account → Unpaged
with_energy u a = record { page = u.page; protect = u.protect; cml = u.cml; alert = u.alert; energy = a }

-- at power-on (data sheet 1.4)
unfoldable pub power_on_unpaged : Unpaged
power_on_unpaged = record { page = 0; protect = 0; cml = 0; alert = false; energy = account 0 0 0 }

-- the four levels (data sheet 4.1)
unfoldable pub valid_protect : ℕ → Bool
valid_protect x = eqb x 0x00 || eqb x 0x20 || eqb x 0x40 || eqb x 0x80

-- the valid data of PAGE in a device with n pages: each page's number, and FFh for every page
unfoldable pub valid_page : ℕ → ℕ → Bool
valid_page n x = ltb x n || eqb x 0xFF

abbrev pub every_page : Unpaged → Bool
every_page u = eqb u.page 0xFF

-- the pages that a write of a paged code acts on, by their numbers: the selected one, or every one (data sheet 3.8)
unfoldable pub acts_on : Unpaged → ℕ → Bool
acts_on u i = eqb i u.page || every_page u

-- the page that a read looks at: the selected one, or page 0 where every one is
unfoldable pub shown : Unpaged → ℕ
shown u = cond (every_page u) 0 u.page

-- PAGE, with n pages, and WRITE_PROTECT are valid data, and the account is in range (data sheet 12.2)
unfoldable pub unpaged_valid : ℕ → Unpaged → Bool
unpaged_valid n u = valid_page n u.page && valid_protect u.protect && account_valid u.energy

-- the bit of STATUS_CML that an answer sets, by its weight (data sheet 6.9); Refusals.antt says it bit by bit
unfoldable pub cml_bits : ℕ → ℕ
cml_bits answer =
    cond (eqb answer 3) 0x80
    (cond (eqb answer 5) 0x02
    (cond (eqb answer 6) 0x40
    (cond (eqb answer 7) 0x20
    (cond (eqb answer 8) 0x80
    (cond (eqb answer 9) 0x40
    (cond (eqb answer 10) 0x02
    (cond (eqb answer 11) 0x02
    0)))))))

-- after a refusal: its CML bit, and the alert where that bit was 0 (data sheet 8.1, 11.6)
unfoldable pub refused : Unpaged → ℕ → Unpaged
refused u answer =
    with_alert (with_cml u (bit_or u.cml (cml_bits answer)))
    (u.alert || gains u.cml (bit_or u.cml (cml_bits answer)))
