-- The table against the meaning of the codes: commands of a kind have one access and one number of data bytes.
-- Assumes nothing.
use Rattle.std.specs.Prelude.{ℕ, ◌<◌, ◌≡◌, false}
use Rattle.command.specs.declared.meaning.Command.{Command}
use Rattle.command.specs.declared.meaning.Command.TheVariants.{SelectPage, Operation, ClearFaults, WriteProtect, Capability, VoutMode, VoutCommand, Limit, Response, StatusByte, StatusWord, Status, ReadEin, Reading, Revision, Absent, Coefficients}
use Rattle.command.specs.Table.{Row, table, row_in, lookup, NONE, R, W, RW, P}
use Rattle.command.specs.Meaning.{command_of}

-- the row of a code c that means this command
unfoldable pub row_of : ℕ → Command → Row
row_of c SelectPage = (c, RW, 1)
row_of c Operation = (c, RW, 1)
row_of c ClearFaults = (c, W, 0)
row_of c WriteProtect = (c, RW, 1)
row_of c Capability = (c, R, 1)
row_of c VoutMode = (c, R, 1)
row_of c VoutCommand = (c, RW, 2)
row_of c (Limit k) = (c, RW, 2)
row_of c (Response k) = (c, RW, 1)
row_of c StatusByte = (c, R, 1)
row_of c StatusWord = (c, R, 2)
row_of c (Status k) = (c, RW, 1)
row_of c ReadEin = (c, R, 7)
row_of c (Reading q) = (c, R, 2)
row_of c Revision = (c, R, 1)
row_of c Absent = (c, NONE, 0)
row_of c Coefficients = (c, P, 3)

-- the two agree on the code c
pub record Agrees (c : ℕ) : Type 0 where
  pub row : row_in table c ≡ row_of c (command_of c)
  -- Absent exactly where the table has no entry
  pub absent : (lookup c).known ≡ false → command_of c ≡ Absent
  pub no_entry : command_of c ≡ Absent → (lookup c).known ≡ false

-- for every code, in the table or not
unfoldable pub TableAgrees : Type 0
TableAgrees = (c : ℕ) → c < 256 → Agrees c
