-- What a command code means: codes of one kind share a case, told apart by a number (data sheet 3.1).
-- Assumes nothing.
use Rattle.std.specs.Prelude.{ℕ, ◌-◌, cond, eqb, ltb}
use Rattle.command.specs.declared.meaning.Command.{Command}
use Rattle.command.specs.declared.meaning.Command.TheVariants.{SelectPage, Operation, ClearFaults, WriteProtect, Capability, VoutMode, VoutCommand, Limit, Response, StatusByte, StatusWord, Status, ReadEin, Reading, Revision, Absent, Coefficients}

-- 00h to 30h: page, operation, clearing, protection, constants, output voltage, coefficients
unfoldable pub setting_of : ℕ → Command
setting_of c =
    cond (eqb c 0x00) SelectPage
    (cond (eqb c 0x01) Operation
    (cond (eqb c 0x03) ClearFaults
    (cond (eqb c 0x10) WriteProtect
    (cond (eqb c 0x19) Capability
    (cond (eqb c 0x20) VoutMode
    (cond (eqb c 0x21) VoutCommand
    (cond (eqb c 0x30) Coefficients
    Absent)))))))

-- 40h to 5Ah: the limit and the response of each cause, and the limit of each warning, by their numbers (data sheet 6.1, 6.13)
unfoldable pub fault_of : ℕ → Command
fault_of c =
    cond (eqb c 0x40) (Limit 0)
    (cond (eqb c 0x41) (Response 0)
    (cond (eqb c 0x42) (Limit 6)
    (cond (eqb c 0x46) (Limit 1)
    (cond (eqb c 0x47) (Response 1)
    (cond (eqb c 0x4A) (Limit 7)
    (cond (eqb c 0x4F) (Limit 2)
    (cond (eqb c 0x50) (Response 2)
    (cond (eqb c 0x51) (Limit 8)
    (cond (eqb c 0x53) (Limit 3)
    (cond (eqb c 0x54) (Response 3)
    (cond (eqb c 0x55) (Limit 4)
    (cond (eqb c 0x56) (Response 4)
    (cond (eqb c 0x57) (Limit 9)
    (cond (eqb c 0x58) (Limit 10)
    (cond (eqb c 0x59) (Limit 5)
    (cond (eqb c 0x5A) (Response 5)
    Absent))))))))))))))))

-- 86h to 98h: the account, the latest word of a quantity by its number (data sheet 5.1), the revision
unfoldable pub reading_of : ℕ → Command
reading_of c =
    cond (eqb c 0x86) ReadEin
    (cond (eqb c 0x88) (Reading 2)
    (cond (eqb c 0x8B) (Reading 0)
    (cond (eqb c 0x8C) (Reading 1)
    (cond (eqb c 0x8D) (Reading 3)
    (cond (eqb c 0x98) Revision
    Absent)))))

-- by rising bounds; 78h to 7Eh are the status registers
unfoldable pub command_of : ℕ → Command
command_of c =
    cond (ltb c 0x31) (setting_of c)
    (cond (ltb c 0x40) Absent
    (cond (ltb c 0x5B) (fault_of c)
    (cond (ltb c 0x78) Absent
    (cond (eqb c 0x78) StatusByte
    (cond (eqb c 0x79) StatusWord
    (cond (ltb c 0x7F) (Status (c - 0x7A))
    (cond (ltb c 0x86) Absent
    (cond (ltb c 0x99) (reading_of c)
    Absent))))))))
