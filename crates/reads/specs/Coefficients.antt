-- What COEFFICIENTS tells of a code on a page, and what it sends (PMBus Part II, 7.2.3 and 14.1).
-- Assumes nothing.
use Rattle.std.specs.Prelude.{ℕ, ◌%◌, ◌/◌, Bool, false, cond, ◌&&◌, List, [], ◌∷◌, eqb}
use Rattle.command.specs.Table.{Entry, lookup}
use Rattle.command.specs.Quantity.{quantity_of}
use Rattle.value.specs.declared.format.Format.{Format}
use Rattle.page.specs.declared.Page.{Page}
use Rattle.page.specs.Page.{format_in, is_direct}

-- 01h asks for what decodes a value that is read, 00h for what encodes one that is written
unfoldable pub has_direction : Entry → ℕ → Bool
has_direction e direction = cond (eqb direction 0x01) e.read (cond (eqb direction 0x00) e.written false)

-- the code carries a value that is in DIRECT form on the page, and goes in that direction
unfoldable pub has_coefficients : Page → ℕ → ℕ → Bool
has_coefficients p code direction = is_direct p.formats (quantity_of code) && has_direction (lookup code) direction

-- the format of a code's value
abbrev pub format_of : Page → ℕ → Format
format_of p code = format_in p.formats (quantity_of code)

-- a count of five, then m, b and R, low bytes first
unfoldable pub coefficient_bytes : Format → List ℕ
coefficient_bytes f = 5 ∷ f.m % 256 ∷ f.m / 256 ∷ f.b % 256 ∷ f.b / 256 ∷ f.r ∷ []
