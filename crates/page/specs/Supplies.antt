-- When a page supplies, as a list of plain facts in the numbers of the data sheet (7.6, 3.6, 7.12), and without the tests that `supplies` is
-- made of: a slip made there and in the code alike is refused.
-- Assumes nothing.
use Rattle.std.specs.Prelude.{ℕ, ◌≤◌, ◌<◌, ◌%◌, ◌≡◌, ◌↔◌, true, false, get_or}
use Rattle.page.specs.declared.Page.{Page}
use Rattle.page.specs.Causes.{present}
use Rattle.page.specs.Status.{supplies}

-- the response byte says: off for as long as the cause is present (action 11)
pub record Lasts (x : ℕ) : Type 0 where
  pub low : 0xC0 ≤ x
  pub high : x ≤ 0xFF

-- the machine's byte says that it holds its page off: tries in bits 5 to 3 and ticks in bits 2 to 0, neither of them 0, and no higher bit
pub record Held (b : ℕ) : Type 0 where
  pub tries : 8 ≤ b
  pub ticks : b % 8 ≡ 0 → ⊥
  pub untripped : b < 64

-- causes by number: 0 VOUT_OV, 1 IOUT_OC, 2 OT, 3 UT, 4 VIN_OV, 5 VIN_UV
pub record Supplying (p : Page) : Type 0 where
  pub on : p.operation ≡ 0x80
  pub untripped : p.tripped ≡ false
  -- no present cause keeps it off while it lasts; the response to IOUT_OC has no such meaning
  pub lasting : (n : ℕ) → n < 6 → (n ≡ 1 → ⊥) → present p n ≡ true → Lasts (get_or p.responses n 0) → ⊥
  -- no machine holds it off
  pub held : (n : ℕ) → n < 6 → Held (get_or p.machines n 0) → ⊥

-- of every page, valid or not
unfoldable pub SuppliesExactly : Type 0
SuppliesExactly = (p : Page) → (supplies p ≡ true) ↔ Supplying p
