-- The data of a readable command, made from the state handed in, and what is sent of it.
-- Assumes nothing.
use Rattle.std.specs.Prelude.{ℕ, ◌%◌, ◌/◌, cond, List, [], ◌∷◌, ◌++◌, Result, Ok, Err, get_or, eqb}
use Rattle.pec.specs.Pec.{pec}
use Rattle.account.specs.Account.{ein_bytes}
use Rattle.command.specs.Meaning.{command_of}
use Rattle.command.specs.declared.meaning.Command.{Command}
use Rattle.command.specs.declared.meaning.Command.TheVariants.{SelectPage, Operation, ClearFaults, WriteProtect, Capability, VoutMode, VoutCommand, Limit, Response, StatusByte, StatusWord, Status, ReadEin, Reading, Revision, Absent}
use Rattle.page.specs.declared.Page.{Page}
use Rattle.page.specs.Status.{status_byte, status_high, reading}
use Rattle.unpaged.specs.declared.Unpaged.{Unpaged}
use Rattle.reads.specs.declared.request.Request.{Request}
use Rattle.reads.specs.Coefficients.{format_of, coefficient_bytes}
use Rattle.reads.specs.Answers.{answers_data}

-- low byte first (data sheet 2.4)
abbrev pub word_bytes : ℕ → List ℕ
word_bytes w = w % 256 ∷ w / 256 ∷ []

-- the registers 7Ah to 7Eh, by their places from 7Ah on: four of the page, and STATUS_CML
unfoldable pub status_register : Page → ℕ → ℕ → ℕ
status_register p cml k = cond (eqb k 4) cml (get_or p.status (k % 4) 0)

-- the data bytes of a command. CAPABILITY, VOUT_MODE and PMBUS_REVISION are constants (data sheet 3.3). The cases that are not read have none.
unfoldable pub read_data : Unpaged → Page → Command → List ℕ
read_data u p SelectPage = u.page ∷ []
read_data u p Operation = p.operation ∷ []
read_data u p ClearFaults = []
read_data u p WriteProtect = u.protect ∷ []
read_data u p Capability = 0xB0 ∷ []
read_data u p VoutMode = 0x13 ∷ []
read_data u p VoutCommand = word_bytes p.command
read_data u p (Limit k) = word_bytes (get_or p.limits (k % 11) 0)
read_data u p (Response k) = get_or p.responses (k % 6) 0 ∷ []
read_data u p StatusByte = status_byte p u.cml ∷ []
read_data u p StatusWord = status_byte p u.cml ∷ status_high p ∷ []
read_data u p (Status k) = status_register p u.cml k ∷ []
read_data u p ReadEin = ein_bytes u.energy
read_data u p (Reading q) = word_bytes (reading p q)
read_data u p Revision = 0x22 ∷ []
read_data u p Absent = []
read_data u p Command.Coefficients = []

-- the data of what a read asks for
unfoldable pub request_data : Unpaged → Page → Result Request ℕ → List ℕ
request_data u p (Err answer) = []
request_data u p (Ok (Request.Plain code k)) = read_data u p (command_of code)
request_data u p (Ok (Request.Coefficients code direction)) = coefficient_bytes (format_of p code)

-- the part of a header that the packet check covers: all of it as it came, both address bytes included (data sheet 2.6)
abbrev pub covered : List ℕ → List ℕ
covered header = header

-- data, then the packet check over header and data
unfoldable pub checked : List ℕ → List ℕ → List ℕ
checked header bytes = bytes ++ (pec (covered header ++ bytes) ∷ [])

-- what the device sends; a reply is the beginning of it, filled up with FFh (data sheet 2.9)
unfoldable pub read_stream : Unpaged → Page → ℕ → Result Request ℕ → List ℕ → List ℕ
read_stream u p answer request header = cond (answers_data answer) (checked header (request_data u p request)) []
