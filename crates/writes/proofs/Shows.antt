-- A write of a paged code settles its page, by computation at each of the 256 codes; and a settled page shows what is present.
-- Assumes nothing.
use Prim.Native.Nat.{ℕ, ◌<◌}
use mathlib.Core.Path.{◌≡◌, sym, ap, ◌∙◌}
use mathlib.Core.Bool.{Bool, true, false, ◌&&◌, or-true, false≢true}
use mathlib.Core.List.{List}
use lib.ListN.{get_or}
use Rattle.laws.proofs.Every.{agree-test}
use Rattle.laws.proofs.Lists.{byte-lt}
use Rattle.command.specs.Table.{table, lookup, entry_of}
use Rattle.command.specs.Meaning.{command_of, setting_of, fault_of, reading_of}
use Rattle.command.specs.Paged.{paged}
use Rattle.page.specs.declared.Page.{Page}
use Rattle.page.specs.Causes.{present, settled}
use Rattle.page.specs.Latching.{status_bit, register_of, bit_of}
use Rattle.page.specs.Settings.{clear_bits}
use Rattle.page.proofs.Settled.{settled-bit, settled-causes, register-lt, cause-bit}
use Rattle.writes.specs.declared.asked.Write.{Write}
use Rattle.writes.specs.Asked.{page_masks, clear_faults, clear_status, write_of, word_of, asked}
use Rattle.writes.specs.Applies.{code}
use Rattle.writes.specs.Left.{applied, changed, cleared, page_left}
use Rattle.writes.specs.Shows.{PresentShows}

-- what is present on a settled page has its bit
settled-shows : (q : Page) (n : ℕ) → n < 11 → present (settled q) n ≡ true → status_bit (settled q) (register_of n) (bit_of n) ≡ true
settled-shows q n h e =
    let there : present q n ≡ true = ap (λ (l : List Bool). get_or l n false) (sym (settled-causes q)) ∙ e in
    settled-bit q (register_of n) (bit_of n) (register-lt n h)
    ∙ rw (cause-bit q n h there) (or-true (status_bit q (register_of n) (bit_of n)))

-- the writes that change a page
abbrev changes : Write → Bool
changes Write.Nothing = false
changes (Write.SelectPage x) = false
changes (Write.Protect x) = false
changes (Write.Change s) = true
changes (Write.Clear m) = true
changes (Write.ClearCml m) = false

changed-shows : (w : Write) (p : Page) (n : ℕ) → n < 11 → changes w ≡ true → present (page_left w p) n ≡ true
    → status_bit (page_left w p) (register_of n) (bit_of n) ≡ true
unfolding page_left changed cleared
changed-shows Write.Nothing p n h c e = absurd (false≢true c)
changed-shows (Write.SelectPage x) p n h c e = absurd (false≢true c)
changed-shows (Write.Protect x) p n h c e = absurd (false≢true c)
changed-shows (Write.Change s) p n h c e = settled-shows (applied s p) n h e
changed-shows (Write.Clear m) p n h c e = settled-shows (clear_bits p (page_masks m)) n h e
changed-shows (Write.ClearCml m) p n h c e = absurd (false≢true c)

-- they are those of the paged codes
paged-changes : (x w c : ℕ) → c < 256 → ((lookup c).written && paged c) ≡ changes (write_of (command_of c) x w)
unfolding lookup entry_of table paged command_of setting_of fault_of reading_of write_of clear_faults clear_status
paged-changes x w c h = agree-test (λ c. (lookup c).written && paged c) (λ c. changes (write_of (command_of c) x w)) 256 tt c h

pub present-shows : PresentShows
unfolding PresentShows asked
present-shows s p n b h w g e =
    let x = get_or s 2 0 in
    changed-shows (asked s) p n h (sym (paged-changes x (word_of x (get_or s 3 0)) (code s) (byte-lt s b 1)) ∙ rw (w, g)) e
