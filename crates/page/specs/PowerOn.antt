-- A page after power-on, whatever was chosen for it: nothing has happened yet (data sheet 1.4), said by what it shows.
-- Assumes nothing.
use Rattle.std.specs.Prelude.{ℕ, ◌<◌, ◌≡◌, false, get_or}
use Rattle.page.specs.declared.Page.{Page}
use Rattle.page.specs.declared.PageChoice.{PageChoice}
use Rattle.page.specs.Causes.{present}
use Rattle.page.specs.Choice.{chosen_page}
use Rattle.page.specs.Latching.{status_bit}
use Rattle.page.specs.Status.{supplies, reading}

pub record QuietPage (p : Page) : Type 0 where
  -- no cause and no warning is present
  pub absent : (n : ℕ) → n < 11 → present p n ≡ false
  -- every bit of the four status registers is 0
  pub clear : (j k : ℕ) → j < 4 → status_bit p j k ≡ false
  pub untripped : p.tripped ≡ false
  -- every machine rests
  pub resting : (k : ℕ) → k < 6 → get_or p.machines k 0 ≡ 0x00
  pub off : supplies p ≡ false
  -- no quantity was measured, and each reads 0000h
  pub unmeasured : (q : ℕ) → q < 4 → get_or p.measured q false ≡ false
  pub zero : (q : ℕ) → q < 4 → reading p q ≡ 0x0000

unfoldable pub PowerOnQuiet : Type 0
PowerOnQuiet = (c : PageChoice) → QuietPage (chosen_page c)
