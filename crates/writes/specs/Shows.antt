-- An accepted write of a paged code leaves its page up to date: by code, and without the order in which the page is changed. A clearing
-- that left the bit of a present cause at 0 is refused, also where the code has the same slip.
-- Assumes nothing.
use Rattle.std.specs.Prelude.{ℕ, ◌<◌, ◌≡◌, true, List}
use Rattle.laws.specs.Lists.{Bytes}
use Rattle.command.specs.Table.{lookup}
use Rattle.command.specs.Paged.{paged}
use Rattle.page.specs.declared.Page.{Page}
use Rattle.page.specs.Causes.{present}
use Rattle.page.specs.Latching.{status_bit, register_of, bit_of}
use Rattle.writes.specs.Applies.{code}
use Rattle.writes.specs.Asked.{asked}
use Rattle.writes.specs.Left.{page_left}

-- the cause or the warning of limit n, if it is present on the page that the write leaves, has its bit there
-- (data sheet 6.4, 6.6, 6.8, 6.14)
unfoldable pub PresentShows : Type 0
PresentShows =
    (s : List ℕ) (p : Page) (n : ℕ) → Bytes s → n < 11 → (lookup (code s)).written ≡ true → paged (code s) ≡ true
    → present (page_left (asked s) p) n ≡ true → status_bit (page_left (asked s) p) (register_of n) (bit_of n) ≡ true
