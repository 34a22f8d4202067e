-- The table of command codes: access and number of data bytes (data sheet 3.1).
-- Assumes nothing.
use Rattle.std.specs.Prelude.{ℕ, Bool, true, false, cond, not, List, [], ◌∷◌, Option, Some, None, eqb}
use Rattle.std.specs.Int.Bits.{bit_and}
use Rattle.command.specs.declared.table.Access.{Access}
use Rattle.command.specs.declared.table.Entry.{Entry as Listed}

-- access: none, where the table has no row; read, written, both; or in a process call alone, whose data bytes are then those written in it
abbrev pub NONE : ℕ
NONE = 0

abbrev pub R : ℕ
R = 1

abbrev pub W : ℕ
W = 2

abbrev pub RW : ℕ
RW = 3

abbrev pub P : ℕ
P = 4

abbrev pub access_number : Access → ℕ
access_number Access.Read = R
access_number Access.Write = W
access_number Access.Both = RW
access_number Access.ProcessCall = P

-- a row: code, access, data bytes
abbrev pub Row : Type 0
Row = ℕ × ℕ × ℕ

unfoldable pub table : List Row
table =
    (0x00, RW, 1)  -- PAGE
    ∷ (0x01, RW, 1)  -- OPERATION
    ∷ (0x03, W, 0)  -- CLEAR_FAULTS
    ∷ (0x10, RW, 1)  -- WRITE_PROTECT
    ∷ (0x19, R, 1)  -- CAPABILITY
    ∷ (0x20, R, 1)  -- VOUT_MODE
    ∷ (0x21, RW, 2)  -- VOUT_COMMAND
    ∷ (0x30, P, 3)  -- COEFFICIENTS
    ∷ (0x40, RW, 2)  -- VOUT_OV_FAULT_LIMIT
    ∷ (0x41, RW, 1)  -- VOUT_OV_FAULT_RESPONSE
    ∷ (0x42, RW, 2)  -- VOUT_OV_WARN_LIMIT
    ∷ (0x46, RW, 2)  -- IOUT_OC_FAULT_LIMIT
    ∷ (0x47, RW, 1)  -- IOUT_OC_FAULT_RESPONSE
    ∷ (0x4A, RW, 2)  -- IOUT_OC_WARN_LIMIT
    ∷ (0x4F, RW, 2)  -- OT_FAULT_LIMIT
    ∷ (0x50, RW, 1)  -- OT_FAULT_RESPONSE
    ∷ (0x51, RW, 2)  -- OT_WARN_LIMIT
    ∷ (0x53, RW, 2)  -- UT_FAULT_LIMIT
    ∷ (0x54, RW, 1)  -- UT_FAULT_RESPONSE
    ∷ (0x55, RW, 2)  -- VIN_OV_FAULT_LIMIT
    ∷ (0x56, RW, 1)  -- VIN_OV_FAULT_RESPONSE
    ∷ (0x57, RW, 2)  -- VIN_OV_WARN_LIMIT
    ∷ (0x58, RW, 2)  -- VIN_UV_WARN_LIMIT
    ∷ (0x59, RW, 2)  -- VIN_UV_FAULT_LIMIT
    ∷ (0x5A, RW, 1)  -- VIN_UV_FAULT_RESPONSE
    ∷ (0x78, R, 1)  -- STATUS_BYTE
    ∷ (0x79, R, 2)  -- STATUS_WORD
    ∷ (0x7A, RW, 1)  -- STATUS_VOUT
    ∷ (0x7B, RW, 1)  -- STATUS_IOUT
    ∷ (0x7C, RW, 1)  -- STATUS_INPUT
    ∷ (0x7D, RW, 1)  -- STATUS_TEMPERATURE
    ∷ (0x7E, RW, 1)  -- STATUS_CML
    ∷ (0x86, R, 7)  -- READ_EIN
    ∷ (0x88, R, 2)  -- READ_VIN
    ∷ (0x8B, R, 2)  -- READ_VOUT
    ∷ (0x8C, R, 2)  -- READ_IOUT
    ∷ (0x8D, R, 2)  -- READ_TEMPERATURE_1
    ∷ (0x98, R, 1)  -- PMBUS_REVISION
    ∷ []

-- the row of the code c, with no access where there is none
abbrev pub row_in : List Row → ℕ → Row
row_in [] c = (c, NONE, 0)
row_in (e ∷ l) c = cond (eqb e.0 c) e (row_in l c)

-- what a row says of its code
pub record Entry : Type 0 where
  pub written : Bool
  pub read : Bool
  pub length : ℕ
  pub known : Bool

-- a code is known where it has an access, whatever the access is
unfoldable pub entry_of : Row → Entry
entry_of e = record {
  written = not (eqb (bit_and e.1 W) 0);
  read = not (eqb (bit_and e.1 R) 0);
  length = e.2;
  known = not (eqb e.1 NONE);
}

-- what the table says of the code c
unfoldable pub lookup : ℕ → Entry
lookup c = entry_of (row_in table c)

-- the same of what a look-up gives: nothing for a code that the table lacks
abbrev pub listed : Option Listed → Entry
listed None = record { written = false; read = false; length = 0; known = false }
listed (Some e) = record { written = e.written; read = e.read; length = e.length; known = true }
