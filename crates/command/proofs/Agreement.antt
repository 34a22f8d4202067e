-- The table agrees with the meaning of the codes: computed at each of the 256.
-- Assumes nothing.
use Prim.Native.Nat.{ℕ, ◌<◌}
use mathlib.Core.Path.{◌≡◌, refl, sym, ap, ◌∙◌}
use mathlib.Core.Bool.{Bool, false}
use Rattle.laws.proofs.Every.{agree}
use Rattle.command.specs.declared.meaning.Command.{Command}
use Rattle.command.specs.declared.meaning.Command.TheVariants.{SelectPage, Operation, ClearFaults, WriteProtect, Capability, VoutMode, VoutCommand, Limit, Response, StatusByte, StatusWord, Status, ReadEin, Reading, Revision, Absent, Coefficients}
use Rattle.command.specs.Table.{Row, table, row_in, lookup, entry_of}
use Rattle.command.specs.Meaning.{command_of, setting_of, fault_of, reading_of}
use Rattle.command.specs.Agreement.{row_of, TableAgrees}

rows : (c : ℕ) → c < 256 → row_in table c ≡ row_of c (command_of c)
unfolding table row_of command_of setting_of fault_of reading_of
rows c h = λ i. (codes i, access i, lengths i)
  where
    codes : (row_in table c).0 ≡ (row_of c (command_of c)).0
    codes = agree (λ c. (row_in table c).0) (λ c. (row_of c (command_of c)).0) 256 tt c h

    access : (row_in table c).1 ≡ (row_of c (command_of c)).1
    access = agree (λ c. (row_in table c).1) (λ c. (row_of c (command_of c)).1) 256 tt c h

    lengths : (row_in table c).2 ≡ (row_of c (command_of c)).2
    lengths = agree (λ c. (row_in table c).2) (λ c. (row_of c (command_of c)).2) 256 tt c h

-- whether a row is one of the table's
abbrev used : Row → Bool
used e = (entry_of e).known

-- of the kinds only Absent has none
unused : (c : ℕ) (k : Command) → used (row_of c k) ≡ false → k ≡ Absent
unfolding row_of entry_of
unused c SelectPage h = cc
unused c Operation h = cc
unused c ClearFaults h = cc
unused c WriteProtect h = cc
unused c Capability h = cc
unused c VoutMode h = cc
unused c VoutCommand h = cc
unused c (Limit k) h = cc
unused c (Response k) h = cc
unused c StatusByte h = cc
unused c StatusWord h = cc
unused c (Status k) h = cc
unused c ReadEin h = cc
unused c (Reading q) h = cc
unused c Revision h = cc
unused c Absent h = refl
unused c Coefficients h = cc

pub table-agrees : TableAgrees
unfolding TableAgrees lookup row_of entry_of
table-agrees c h =
    let r = rows c h in
    record {
      row = r;
      absent = λ e. unused c (command_of c) (ap used (sym r) ∙ e);
      no_entry = λ e. ap used (r ∙ ap (row_of c) e);
    }
