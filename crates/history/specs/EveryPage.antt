-- PAGE FFh selects every page (data sheet 3.8): a write does to each what it does to a selected one. And which codes have a page at all.
-- Assumes nothing.
use Rattle.std.specs.Prelude.{ℕ, ◌<◌, ◌≡◌, true, false, not, List, [], ◌∷◌, length}
use Rattle.command.specs.Table.{lookup}
use Rattle.command.specs.Meaning.{command_of}
use Rattle.command.specs.Paged.{paged}
use Rattle.page.specs.declared.Page.{Page}
use Rattle.unpaged.specs.declared.Unpaged.{Unpaged}
use Rattle.unpaged.specs.Unpaged.{with_page}
use Rattle.unpaged.specs.Applies.{is_in}
use Rattle.reads.specs.Data.{read_data}
use Rattle.device.specs.declared.Device.{Device}
use Rattle.device.specs.Device.{device, page_of}
use Rattle.device.specs.Step.{write}
use Rattle.history.specs.Run.{next, answer}

-- the same device with page i selected
abbrev pub selecting : ℕ → Device → Device
selecting i d = device (with_page d.unpaged i) d.pages

-- Under PAGE FFh every write gets the answer that it gets with page i selected, and leaves page i as it leaves it there.
unfoldable pub AsSelected : Type 0
AsSelected =
    (d : Device) (s : List ℕ) (i : ℕ) → d.unpaged.page ≡ 0xFF → i < length d.pages
    → (answer d (write s) ≡ answer (selecting i d) (write s))
    × (page_of (next d (write s)) i ≡ page_of (next (selecting i d) (write s)) i)

-- the codes without a page (data sheet 3.2): PAGE, WRITE_PROTECT, CAPABILITY, VOUT_MODE, STATUS_CML, READ_EIN, PMBUS_REVISION
abbrev pub unpaged_codes : List ℕ
unpaged_codes = 0x00 ∷ 0x10 ∷ 0x19 ∷ 0x20 ∷ 0x7E ∷ 0x86 ∷ 0x98 ∷ []

-- a read of the code gives different data on two pages of some device
pub record ByPage (c : ℕ) : Type 0 where
  pub unpaged : Unpaged
  pub one : Page
  pub other : Page
  pub differ : read_data unpaged one (command_of c) ≡ read_data unpaged other (command_of c) → ⊥

-- a code has no page exactly where it is listed: then a read of it gives the same whatever page is shown, and of every other code that is
-- read it does not
pub record OfPages (c : ℕ) : Type 0 where
  pub listed : paged c ≡ not (is_in c unpaged_codes)
  pub same : is_in c unpaged_codes ≡ true → (u : Unpaged) (p q : Page) → read_data u p (command_of c) ≡ read_data u q (command_of c)
  pub by_page : is_in c unpaged_codes ≡ false → (lookup c).read ≡ true → ByPage c

unfoldable pub PagedAgrees : Type 0
PagedAgrees = (c : ℕ) → c < 256 → OfPages c
