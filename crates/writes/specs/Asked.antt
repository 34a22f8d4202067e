-- What a write asks for, as data, and which data are valid. Everything that speaks of writes goes by the kinds of `Write`, not by commands.
-- Assumes nothing.
use Rattle.std.specs.Prelude.{ℕ, ◌+◌, ◌*◌, Bool, true, cond, List, [], ◌∷◌, get_or, eqb}
use Rattle.command.specs.Meaning.{command_of}
use Rattle.command.specs.declared.meaning.Command.{Command}
use Rattle.command.specs.declared.meaning.Command.TheVariants.{SelectPage, Operation, ClearFaults, WriteProtect, Capability, VoutMode, VoutCommand, Limit, Response, StatusByte, StatusWord, Status, ReadEin, Reading, Revision, Absent, Coefficients}
use Rattle.page.specs.Causes.{weigh}
use Rattle.page.specs.Settings.{valid_operation, valid_response}
use Rattle.unpaged.specs.Unpaged.{valid_page, valid_protect}
use Rattle.writes.specs.declared.asked.Masks.{Masks}
use Rattle.writes.specs.declared.asked.Setting.{Setting}
use Rattle.writes.specs.declared.asked.Write.{Write}

-- a word from its bytes, the low one first (data sheet 2.4)
unfoldable pub word_of : ℕ → ℕ → ℕ
word_of low high = low + high * 256

-- the masks of the four page registers
abbrev pub page_masks : Masks → List ℕ
page_masks m = m.vout ∷ m.iout ∷ m.input ∷ m.temperature ∷ []

-- CLEAR_FAULTS: every bit of the pages acted on and of STATUS_CML (data sheet 6.6)
unfoldable pub clear_faults : Write
clear_faults = Write.Clear (record { vout = 255; iout = 255; input = 255; temperature = 255; cml = 255 })

-- the mask x at register k of the pages
unfoldable pub register_masks : ℕ → ℕ → Masks
register_masks k x = record {
  vout = weigh (eqb k 0) x;
  iout = weigh (eqb k 1) x;
  input = weigh (eqb k 2) x;
  temperature = weigh (eqb k 3) x;
  cml = 0;
}

-- a status register is written with ones at the bits to clear (data sheet 6.8); 4 is STATUS_CML, which belongs to no page
unfoldable pub clear_status : ℕ → ℕ → Write
clear_status k x = cond (eqb k 4) (Write.ClearCml x) (Write.Clear (register_masks k x))

-- the write of a command; x is its first data byte, w its data word. The codes that are not written ask for nothing: they get answer 3.
unfoldable pub write_of : Command → ℕ → ℕ → Write
write_of SelectPage x w = Write.SelectPage x
write_of WriteProtect x w = Write.Protect x
write_of ClearFaults x w = clear_faults
write_of Operation x w = Write.Change (Setting.Operation x)
write_of VoutCommand x w = Write.Change (Setting.VoutCommand w)
write_of (Limit k) x w = Write.Change (Setting.Limit k w)
write_of (Response k) x w = Write.Change (Setting.Response k x)
write_of Capability x w = Write.Nothing
write_of VoutMode x w = Write.Nothing
write_of StatusByte x w = Write.Nothing
write_of StatusWord x w = Write.Nothing
write_of (Status k) x w = clear_status k x
write_of ReadEin x w = Write.Nothing
write_of (Reading q) x w = Write.Nothing
write_of Revision x w = Write.Nothing
write_of Absent x w = Write.Nothing
write_of Coefficients x w = Write.Nothing

-- the write of the bytes from START to STOP: address, code, data
unfoldable pub asked : List ℕ → Write
asked s = write_of (command_of (get_or s 1 0)) (get_or s 2 0) (word_of (get_or s 2 0) (get_or s 3 0))

-- valid data (data sheet 3.1); any word is
unfoldable pub valid_setting : Setting → Bool
valid_setting (Setting.Operation x) = valid_operation x
valid_setting (Setting.VoutCommand w) = true
valid_setting (Setting.Limit k w) = true
valid_setting (Setting.Response k x) = valid_response k x

-- in a device with n pages
unfoldable pub valid_write : ℕ → Write → Bool
valid_write n Write.Nothing = true
valid_write n (Write.SelectPage x) = valid_page n x
valid_write n (Write.Protect x) = valid_protect x
valid_write n (Write.Change s) = valid_setting s
valid_write n (Write.Clear m) = true
valid_write n (Write.ClearCml m) = true
