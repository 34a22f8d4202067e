-- Whether a page supplies, as a host reads it and as the firmware asks.
-- Assumes nothing.
use Prim.Native.Nat.{ℕ, ◌<◌}
use mathlib.Core.Path.{◌≡◌, refl, sym, ap, ◌∙◌}
use mathlib.Core.Logic.{◌↔◌}
use mathlib.Core.Bool.{Bool, true, false, not, or-true, false≢true}
use mathlib.Core.List.{List, [], ◌∷◌}
use native.Mathlib.Omega.{arith}
use lib.Dec.{ltb}
use lib.ListN.{length}
use borrow.Author.Tests.{eq-eqb, ltb-true, lt-ltb, not-false}
use Rattle.laws.proofs.Branches.{either}
use Rattle.command.specs.Table.{table, entry_of, lookup}
use Rattle.command.specs.Meaning.{command_of}
use Rattle.page.specs.declared.Page.{Page}
use Rattle.page.specs.Status.{supplies, status_byte, status_high}
use Rattle.page.specs.Supplies.{Supplying, SuppliesExactly}
use Rattle.page.proofs.StatusWords.{off_low, off_high}
use Rattle.page.proofs.Supplies.{supplies-exactly}
use Rattle.reads.specs.Data.{read_data}
use Rattle.device.specs.declared.Device.{Device}
use Rattle.device.specs.Device.{Choice, number_of, granted, page_of, page_shown}
use Rattle.device.specs.Step.{Call}
use Rattle.device.specs.Supply.{supplies_at}
use Rattle.device.proofs.PowerOn.{granted-number}
use Rattle.history.specs.Run.{reached}
use Rattle.history.specs.Valid.{ReachedValid}
use Rattle.history.specs.ReadBack.{Reads, is_unpaged}
use Rattle.history.specs.Supplies.{ShowsOff, HeldOff, SuppliesAsked}
use Rattle.history.proofs.ReadBack.{open_for, shows, reads_data}
use Rattle.history.proofs.Valid.{reached-valid}

-- a bit that is the opposite of `supplies`
off_bit : (p : Page) (b : Bool) → b ≡ not (supplies p) → (b ≡ false) ↔ Supplying p
unfolding SuppliesExactly
off_bit p b e = (
  λ z. (supplies-exactly p).0 (not-false (supplies p) (sym e ∙ z)),
  λ s. e ∙ ap not ((supplies-exactly p).1 s),
)

module _ (x : Choice) (cs : List Call) (i : ℕ) (ok : granted x ≡ true) (small : i < number_of x)
    (selected : (reached x cs).unpaged.page ≡ i) where
  abbrev d : Device
  d = reached x cs

  page-there : page_shown d ≡ page_of d i
  page-there = ap (page_of d) (shows d.unpaged i (number_of x) (granted-number x ok) small selected)

  -- a read of a code that may be read, while page i is selected
  reads_code : (code : ℕ) → code < 256 → (lookup code).read ≡ true → Reads d code (read_data d.unpaged (page_of d i) (command_of code))
  unfolding ReachedValid
  reads_code code byte readable =
      reads_data d (reached-valid x cs ok) code byte readable
      (open_for d.unpaged code i (number_of x) (granted-number x ok) small
      (rw (eq-eqb d.unpaged.page i selected) (or-true (is_unpaged code))))
      (read_data d.unpaged (page_of d i) (command_of code))
      (ap (λ (p : Page). read_data d.unpaged p (command_of code)) page-there)

  byte-read : Reads d 0x78 (status_byte (page_of d i) d.unpaged.cml ∷ [])
  unfolding command_of read_data lookup table entry_of
  byte-read = reads_code 0x78 (omega arith) refl

  word_read : Reads d 0x79 (status_byte (page_of d i) d.unpaged.cml ∷ status_high (page_of d i) ∷ [])
  unfolding command_of read_data lookup table entry_of
  word_read = reads_code 0x79 (omega arith) refl

  byte-off : ShowsOff d i 0x78 1 0 6
  unfolding lookup table entry_of
  byte-off = record {
    accepted = byte-read.accepted;
    off = rw byte-read.reply (off_bit (page_of d i) _ (off_low (page_of d i) d.unpaged.cml));
  }

  low_off : ShowsOff d i 0x79 2 0 6
  unfolding lookup table entry_of
  low_off = record {
    accepted = word_read.accepted;
    off = rw word_read.reply (off_bit (page_of d i) _ (off_low (page_of d i) d.unpaged.cml));
  }

  high_off : ShowsOff d i 0x79 2 1 3
  unfolding lookup table entry_of
  high_off = record {
    accepted = word_read.accepted;
    off = rw word_read.reply (off_bit (page_of d i) _ (off_high (page_of d i)));
  }

pub held-off : HeldOff
unfolding HeldOff
held-off x cs i ok small selected = record {
  byte = byte-off x cs i ok small selected;
  low = low_off x cs i ok small selected;
  high = high_off x cs i ok small selected;
}

pub supplies-asked : SuppliesAsked
unfolding SuppliesAsked supplies_at SuppliesExactly
supplies-asked d i = (
  λ e. either (ltb i (length d.pages))
      (λ y. (ltb-true i (length d.pages) y, (supplies-exactly (page_of d i)).0 (rw y at e))) (λ n. absurd (false≢true (rw n at e))),
  λ s. rw (lt-ltb i (length d.pages) s.0) ((supplies-exactly (page_of d i)).1 s.1),
)
