-- Which commands act on the selected page.
-- Assumes nothing.
use Rattle.std.specs.Prelude.{ℕ, Bool, not, ◌||◌, eqb}

-- all but PAGE, WRITE_PROTECT, CAPABILITY, VOUT_MODE, STATUS_CML, READ_EIN and PMBUS_REVISION (data sheet 3.2)
unfoldable pub paged : ℕ → Bool
paged c =
    not (eqb c 0x00 || eqb c 0x10 || eqb c 0x19 || eqb c 0x20 || eqb c 0x7E || eqb c 0x86 || eqb c 0x98)
