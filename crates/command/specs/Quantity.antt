-- Which codes carry a value, and of which quantity (data sheet 3.1, 5.1): from the meaning of the code and the table of causes.
-- Assumes nothing.
use Rattle.std.specs.Prelude.{ℕ}
use Rattle.cause.specs.Causes.{VOUT, limit_of}
use Rattle.command.specs.declared.meaning.Command.{Command}
use Rattle.command.specs.declared.meaning.Command.TheVariants.{SelectPage, Operation, ClearFaults, WriteProtect, Capability, VoutMode, VoutCommand, Limit, Response, StatusByte, StatusWord, Status, ReadEin, Reading, Revision, Absent, Coefficients}
use Rattle.command.specs.Meaning.{command_of}

-- past the four quantities: no value
abbrev pub NO_VALUE : ℕ
NO_VALUE = 4

-- a limit carries the quantity that is held against it, a reading its own; VOUT_COMMAND is the output voltage
unfoldable pub carried : Command → ℕ
carried SelectPage = NO_VALUE
carried Operation = NO_VALUE
carried ClearFaults = NO_VALUE
carried WriteProtect = NO_VALUE
carried Capability = NO_VALUE
carried VoutMode = NO_VALUE
carried VoutCommand = VOUT
carried (Limit n) = (limit_of n).quantity
carried (Response n) = NO_VALUE
carried StatusByte = NO_VALUE
carried StatusWord = NO_VALUE
carried (Status j) = NO_VALUE
carried ReadEin = NO_VALUE
carried (Reading q) = q
carried Revision = NO_VALUE
carried Absent = NO_VALUE
carried Coefficients = NO_VALUE

unfoldable pub quantity_of : ℕ → ℕ
quantity_of code = carried (command_of code)
