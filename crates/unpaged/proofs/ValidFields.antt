-- The valid unpaged parts, field by field.
-- Assumes nothing.
use Prim.Native.Nat.{ℕ, ◌+◌}
use mathlib.Core.Path.{◌≡◌, sym, ◌∙◌}
use mathlib.Core.Bool.{and-true, and_assoc}
use native.Mathlib.Omega.{arith}
use lib.Dec.{ltb, leb}
use borrow.Author.Tests.{ltb-true, ltb-false, le-leb, lt-leb}
use Rattle.laws.proofs.Branches.{either}
use Rattle.account.specs.Account.{account_valid}
use Rattle.unpaged.specs.Unpaged.{unpaged_valid, valid_page, valid_protect}
use Rattle.unpaged.specs.ValidFields.{UnpagedValidByField}

-- below a bound, or at most the number before it
below : (x n : ℕ) → ltb x (n + 1) ≡ leb x n
below x n =
    either (ltb x (n + 1)) (λ y. let h = ltb-true x (n + 1) y in y ∙ sym (le-leb x n (omega arith)))
    (λ f. let h = ltb-false x (n + 1) f in f ∙ sym (lt-leb x n (omega arith)))

pub unpaged-valid-by_field : UnpagedValidByField
unfolding UnpagedValidByField unpaged_valid valid_page valid_protect account_valid
unpaged-valid-by_field n u =
    rw (below u.energy.accumulator 0x7FFF, below u.energy.rollover 0xFF, below u.energy.count 0xFFFFFF)
    (simp (and-true, and_assoc))
